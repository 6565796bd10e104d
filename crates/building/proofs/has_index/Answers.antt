-- `building::has_index` meets its contract: the index's word is above 0 where there is one. Assumes nothing.
use Rattle.std.specs.Prelude.{◌≡◌, ℕ, Option, Some, None, ltb, is_some, refl}
use borrow.Author.Tests.{lt-ltb}
use Rattle.std.proofs.Common.{◌+◌, arith, sym, ap, ◌∙◌}
use Rattle.store.specs.Chains.{link_of}
use Rattle.building.proofs.has_index.Goals as goal

some-link : (r : Option ℕ) → is_some r ≡ ltb 0 (link_of r)
some-link None = refl
some-link (Some i) = sym (lt-ltb 0 (i + 1) (omega arith))

pub returns : goal.returns
returns c = c.is_some.ensures ∙ some-link c.index_of.result ∙ ap (ltb 0) c.index_of.ensures.0
