-- What the finished words show is what the definition renders, where each slot shows the same and each row is the same. Assumes nothing.
use mathlib.Core.Bool.{Bool, true, false}
use mathlib.Core.List.{List, [], ◌∷◌, ◌++◌, map}
use mathlib.Core.Option.{Option, none, some}
use mathlib.Core.Path.{◌≡◌, refl, sym, ap, ◌∙◌}
use Prim.Native.Nat.{ℕ, zero, suc, ◌+◌, ◌-◌, ◌≤◌, ◌<◌}
use native.Mathlib.Omega.{arith}
use lib.Dec.{eqb}
use lib.ListN.{length, get_or}
use lib.Seq.{ext_get_or}
use Rattle.definition.specs.Basics.{from, concat}
use Rattle.definition.specs.Bytes.{be2}
use Rattle.definition.specs.Shapes.{Entry, with_literal}
use Rattle.definition.specs.Numbering.{Literal, literal_of}
use Rattle.definition.specs.Building.{Row, Content, nothing, empty_text, holds, content_of, text_in, class_name}
use Rattle.definition.specs.Run.{shown, slot_bytes, row_bytes, class_bytes}
use Rattle.facts.proofs.Chunks.{length_from, from-same, from-get}
use Rattle.store.specs.Store.{Store}
use Rattle.output.specs.Contents.{slot_in, pool_count, pool_in}
use Rattle.output.specs.Names.{text_of, class_of, shown_at, class_slot_in, class_in}
use Rattle.output.specs.Rows.{row_in, row_node_in, row_count_in, rows_in}

map-from : {A B : Type 0} (f : A → B) (g : ℕ → A) (i n : ℕ) → map f (from g i n) ≡ from (λ j. f (g j)) i n
unfolding from
map-from f g i zero = refl
map-from f g i (suc n) = ap (λ l. f (g i) ∷ l) (map-from f g (suc i) n)

-- THE POOL
pub pool_rendered :
    (s : List ℕ) (t : Store) (all : List Literal) (contents : ℕ → Content) →
    ((i : ℕ) → 1 ≤ i → i < pool_count t → shown_at s t i ≡ shown all (contents i)) →
    pool_in s t ≡ be2 (pool_count t) ++ concat (map (λ c. slot_bytes (shown all c)) (from contents 1 (pool_count t - 1)))
pool_rendered s t all contents same =
    ap (λ l. be2 (pool_count t) ++ concat l)
    (from-same (slot_in s t) (λ i. slot_bytes (shown all (contents i))) 1 (pool_count t - 1) (λ i a b. ap slot_bytes (same i a (omega arith)))
    ∙ sym (map-from (λ c. slot_bytes (shown all c)) contents 1 (pool_count t - 1)))

-- THE ROWS
pub rows_rendered :
    (constants : ℕ) (t : Store) (rows : List Row) → length rows ≡ row_count_in t →
    ((i : ℕ) → i < row_count_in t → row_in t (row_node_in constants t i) ≡ get_or rows i []) → rows_in constants t ≡ concat (map row_bytes rows)
rows_rendered constants t rows long same =
    let listed : rows ≡ from (λ i. row_in t (row_node_in constants t i)) 0 (row_count_in t) =
    ext_get_or [] rows (from (λ i. row_in t (row_node_in constants t i)) 0 (row_count_in t))
    (long ∙ sym (length_from (λ i. row_in t (row_node_in constants t i)) 0 (row_count_in t)))
    (λ j l.
    let low : j < row_count_in t = omega arith in
    let z : 0 + j ≡ j = omega arith in
    sym (from-get (λ i. row_in t (row_node_in constants t i)) 0 (row_count_in t) j [] low ∙ ap (λ i. row_in t (row_node_in constants t i)) z ∙ same j low)) in
    ap concat (sym (map-from row_bytes (λ i. row_in t (row_node_in constants t i)) 0 (row_count_in t)) ∙ ap (map row_bytes) (sym listed))

-- THE CLASS NAME
text_rendered : (all : List Literal) (c : Content) → text_of (shown all c) ≡ class_bytes all (text_in c)
unfolding text_of shown class_bytes text_in with_literal
text_rendered all nothing = refl
text_rendered all empty_text = refl
text_rendered all (holds e) = ways (eqb e.tag 1)
  where
    ways :
        (b : Bool) →
        elim b [ true ↦ some (literal_of all e.literal) | false ↦ none ]
        ≡ class_bytes all (elim b [ true ↦ some (some e.literal) | false ↦ none ])
    ways true = refl
    ways false = refl

class_rendered :
    (all : List Literal) (owned : List (ℕ × Entry ℕ ℕ)) (at : ℕ → Option (Entry (List ℕ) ℕ)) (c : Content) →
    ((e : Entry ℕ ℕ) → c ≡ holds e → at (get_or e.kids 0 0) ≡ shown all (content_of owned (get_or e.kids 0 0))) →
    class_of at (shown all c) ≡ class_bytes all (class_name owned c)
unfolding class_of shown class_bytes class_name with_literal
class_rendered all owned at nothing same = refl
class_rendered all owned at empty_text same = refl
class_rendered all owned at (holds e) same =
    ways (eqb e.tag 7) (ap text_of (same e refl) ∙ text_rendered all (content_of owned (get_or e.kids 0 0)))
  where
    ways :
        (b : Bool) → text_of (at (get_or e.kids 0 0)) ≡ class_bytes all (text_in (content_of owned (get_or e.kids 0 0))) →
        elim b [ true ↦ text_of (at (get_or e.kids 0 0)) | false ↦ none ]
        ≡ class_bytes all (elim b [ true ↦ text_in (content_of owned (get_or e.kids 0 0)) | false ↦ none ])
    ways true h = h
    ways false h = refl

-- past 65,535 the words' search would find raw bootstraps too, so that only slots of two bytes are asked for
pub name_rendered :
    (s : List ℕ) (t : Store) (all : List Literal) (owned : List (ℕ × Entry ℕ ℕ)) →
    ((n : ℕ) → n < 65536 → shown_at s t n ≡ shown all (content_of owned n)) → class_slot_in s t < 65536 →
    ((e : Entry ℕ ℕ) → content_of owned (class_slot_in s t) ≡ holds e → get_or e.kids 0 0 < 65536) →
    class_in s t ≡ class_bytes all (class_name owned (content_of owned (class_slot_in s t)))
name_rendered s t all owned same low kids =
    ap (class_of (shown_at s t)) (same (class_slot_in s t) low)
    ∙ class_rendered all owned (shown_at s t) (content_of owned (class_slot_in s t)) (λ e h. same (get_or e.kids 0 0) (kids e h))
