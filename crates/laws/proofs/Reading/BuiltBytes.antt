-- The pool and the bootstraps of a built job are bytes. Assumes nothing.
use mathlib.Core.List.{List}
use mathlib.Core.Path.{◌≡◌, subst}
use Prim.Native.Nat.{ℕ}
use Rattle.definition.specs.Basics.{good}
use Rattle.definition.specs.Job.{Job}
use Rattle.definition.specs.Form.{form}
use Rattle.definition.specs.Numbering.{top_of, literals, numbered}
use Rattle.definition.specs.Layout.{Layout, layout_of, layout}
use Rattle.definition.specs.Run.{render}
use Rattle.laws.specs.Statements.{IsBytes}
use Rattle.laws.proofs.Building.BuiltJob.{rows}
use Rattle.laws.proofs.Reading.WrittenBytes.{layout-bytes}
use Rattle.laws.proofs.Reading.BuiltPoolReadBack.{stg, contents_laid}

pub built_bytes :
    (bytes : List ℕ) (job : Job (List ℕ)) (l : Layout) →
    IsBytes bytes →
    form bytes ≡ good job →
    layout (top_of job) (numbered job) ≡ good l →
    IsBytes (render (literals job) l).pool × IsBytes (render (literals job) l).bootstraps
unfolding layout_of
built_bytes bytes job l are formed laid =
    let s = stg bytes job l are formed laid in
    subst (λ (x : Layout). IsBytes (render (literals job) x).pool × IsBytes (render (literals job) x).bootstraps) s.is_laid
    (layout-bytes (literals job) (layout_of (top_of job) s.answers s.asked.origins s.asked.resolved.visits (numbered job).build.class (rows bytes job l are formed laid) s.named) (contents_laid bytes job l are formed laid))
