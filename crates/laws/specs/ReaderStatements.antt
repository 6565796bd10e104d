-- What is promised of the reader of crates/jvms, which is written from the JVM Specification alone, and that the definition's reader, which
-- goes by the table of shapes, reads the same. Assumes nothing.
use Rattle.std.specs.Prelude.{List, map, ◌↔◌, ◌≡◌, ℕ, length}
use Rattle.std.proofs.Math.Option
use Rattle.std.proofs.Math.Option.{some}
use Rattle.definition.specs.Jvms.{read_pool, read_bootstraps}
use Rattle.jvms.specs.Pool.{Slot, BootstrapMethod, read_pool_lem, read_bootstrap_methods}
use Rattle.jvms.specs.Written.{each_of, pool_bytes, bootstrap_method_bytes, All, IsPool, IsBootstrapMethod}
use Rattle.laws.specs.AsEntries.{as_shown, as_row}
use Rattle.laws.specs.Statements.{IsBytes}

-- READER: bytes read as a table of slots exactly if it is one and they are its count and the bytes of its constants; so one table has one
-- pool; and as so many bootstrap methods exactly if there are so many and the bytes are theirs
abbrev pub ReadsExactly : Type 0
ReadsExactly =
    ((bytes : List ℕ) (s : List Slot) → IsBytes bytes → (read_pool_lem bytes ≡ some s) ↔ (IsPool s × (bytes ≡ pool_bytes s)))
    × ((b₁ b₂ : List ℕ) (s : List Slot) → IsBytes b₁ → IsBytes b₂ → read_pool_lem b₁ ≡ some s → read_pool_lem b₂ ≡ some s → b₁ ≡ b₂)
    × ((n : ℕ) (bytes : List ℕ) (rows : List BootstrapMethod) → IsBytes bytes → (read_bootstrap_methods n bytes ≡ some rows)
    ↔ ((length rows ≡ n) × All IsBootstrapMethod rows × (bytes ≡ each_of bootstrap_method_bytes rows)))

-- AGREE: of bytes, the definition's readers read the same as those of JVMS
abbrev pub ReadersAgree : Type 0
ReadersAgree =
    ((bytes : List ℕ) → IsBytes bytes → read_pool bytes ≡ Option.map (map as_shown) (read_pool_lem bytes))
    × ((n : ℕ) (bytes : List ℕ) → IsBytes bytes → read_bootstraps n bytes ≡ Option.map (map as_row) (read_bootstrap_methods n bytes))
