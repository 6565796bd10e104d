-- Reading what was written gives the units back: a theorem about the contracts of the two functions. Assumes nothing.
use mathlib.Core.Path.{◌≡◌, refl, sym, ap, ◌∙◌}
use mathlib.Core.List.{List}
use Prim.Native.Nat.{ℕ, ◌≤◌}
use lib.ListN.{length, take, drop}
use lib.Seq.{take-append_seam}
use Rattle.definition.specs.Basics.{Result, good, bad, Refusal}
use Rattle.definition.specs.Run.{overwrite}
use Rattle.definition.specs.Texts.{read_text, write_text}
use Rattle.facts.proofs.Results.{good_inj, bad≢good}
use Rattle.laws.specs.TextStatements.{IsUnits}
use Rattle.laws.proofs.Texts.TextsBack.{units_back}
use Rattle.std.specs.Prelude.{Ok}
use Rattle.std.specs.Prelude.{Result as Outcome}
use Rattle.refusal.specs.declared.Refusal as by_name
use Rattle.texts.specs.Answers.{answer, length_of, out_after}
use Rattle.texts.proofs.Single.{read_inj}

-- a length answered is that of a text, with which the output begins
text_written :
    (w : Result Refusal (List ℕ)) (out : List ℕ) (n : ℕ) →
    good n ≡ length_of w →
    (text : List ℕ) × (w ≡ good text) × (take n (out_after w out) ≡ text)
unfolding length_of out_after overwrite
text_written (good text) out n e =
    (text, refl, ap (λ k. take k (overwrite text out)) (good_inj e) ∙ take-append_seam text (drop (length text) out))
text_written (bad r) out n e = bad≢good (sym e)

-- `write_text` answers n and leaves `text`; `read_text` on its first n bytes, with room for the units, then answers how many
-- units there are and leaves them
pub read_back_lem :
    (units out text room after : List ℕ) (n : ℕ) (r : Outcome ℕ by_name.Refusal) → IsUnits units →
    answer (Ok n) ≡ length_of (write_text (length out) units) →
    text ≡ out_after (write_text (length out) units) out →
    answer r ≡ length_of (read_text (length room) (take n text)) →
    after ≡ out_after (read_text (length room) (take n text)) room →
    length units ≤ length room →
    (r ≡ Ok (length units)) × (after ≡ overwrite units room)
unfolding answer length_of out_after
read_back_lem units out text room after n r small wrote left answered leaves fits =
    let (bytes, written, begins) = text_written (write_text (length out) units) out n wrote in
    let read : read_text (length room) (take n text) ≡ good units =
    ap (λ f. read_text (length room) (take n f)) left
    ∙ ap (read_text (length room)) begins
    ∙ units_back (length out) (length room) units bytes small written fits in
    (read_inj r (Ok (length units)) (answered ∙ ap length_of read), leaves ∙ ap (λ x. out_after x room) read)
