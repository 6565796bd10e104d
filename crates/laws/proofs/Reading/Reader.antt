-- READER: bytes read as a table of slots exactly if they are its count and the bytes of its constants, and likewise of bootstrap methods.
-- Assumes nothing.
use mathlib.Core.List.{List, [], append-nil}
use mathlib.Core.Option.{some}
use mathlib.Core.Path.{◌≡◌, sym, ap, ◌∙◌}
use Prim.Native.Nat.{ℕ}
use lib.ListN.{length}
use Rattle.jvms.specs.Pool.{Slot, read_pool_lem, BootstrapMethod, bootstrap_method, read_bootstrap_methods}
use Rattle.jvms.specs.Written.{each_of, pool_bytes, bootstrap_method_bytes, All, IsPool, IsBootstrapMethod}
use Rattle.laws.specs.Statements.{IsBytes}
use Rattle.laws.specs.ReaderStatements.{ReadsExactly}
use Rattle.laws.proofs.Reading.ReadIsSpelled.{all_bytes, item_array, takes_pool, item_method, wholly-some}
use Rattle.laws.proofs.Reading.SpelledIsRead.{pool_back, methods_back}

pool_forth : (bytes : List ℕ) (s : List Slot) → IsBytes bytes → read_pool_lem bytes ≡ some s → IsPool s × (bytes ≡ pool_bytes s)
unfolding read_pool_lem
pool_forth bytes s are e =
    let t = takes_pool bytes (all_bytes bytes are) s [] (wholly-some _ s e) in
    (t.is.0, t.are ∙ append-nil t.used ∙ t.is.1)

methods_forth :
    (n : ℕ) (bytes : List ℕ) (l : List BootstrapMethod) →
    IsBytes bytes →
    read_bootstrap_methods n bytes ≡ some l →
    (length l ≡ n) × All IsBootstrapMethod l × (bytes ≡ each_of bootstrap_method_bytes l)
unfolding read_bootstrap_methods
methods_forth n bytes l are e =
    let t = item_array IsBootstrapMethod bootstrap_method_bytes bootstrap_method item_method n bytes (all_bytes bytes are) l [] (wholly-some _ l e) in
    (t.is.0.0, t.is.0.1, t.are ∙ append-nil t.used ∙ t.is.1)

pub reads_exactly : ReadsExactly
reads_exactly = (
  λ bytes s are. (pool_forth bytes s are, λ h. ap read_pool_lem h.1 ∙ pool_back s h.0),
  λ b₁ b₂ s are₁ are₂ e₁ e₂. (pool_forth b₁ s are₁ e₁).1 ∙ sym (pool_forth b₂ s are₂ e₂).1,
  λ n bytes l are. (methods_forth n bytes l are, λ h. rw (h.2, ← h.0) (methods_back l h.1)),
)
