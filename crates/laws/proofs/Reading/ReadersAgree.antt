-- AGREE: of bytes, the definition's readers, which go by the table of shapes, read the same as those written from JVMS. Assumes nothing.
use mathlib.Core.Bool.{Bool, true, false}
use mathlib.Core.List.{List, [], ◌∷◌, map}
use mathlib.Core.Option
use mathlib.Core.Option.{Option, none, some}
use mathlib.Core.Path.{◌≡◌, refl, sym, ap, ◌∙◌}
use Prim.Native.Nat.{ℕ, zero, suc}
use Rattle.definition.specs.Bytes.{two, many}
use Rattle.definition.specs.Shapes.{bootstrap_shape, bootstrap_tag, is_wide, with_kids, read_fields, read_entry}
use Rattle.definition.specs.Jvms.{index, cp_info, read_slots, below_count, read_pool, read_bootstraps}
use Rattle.jvms.specs.Pool.{return, and_then, ◌>>=◌, u2, array, Constant, Utf8, Integer, Float, Long, Double, Class, String, Fieldref, Methodref, InterfaceMethodref, NameAndType, MethodHandle, MethodType, Dynamic, InvokeDynamic, Module, Package, cp_info_lem, takes_two, Slot, usable, unusable, slots, constant_pool, wholly, read_pool_lem, bootstrap_method, read_bootstrap_methods}
use Rattle.laws.specs.Statements.{IsBytes}
use Rattle.laws.specs.AsEntries.{as_entry, as_shown, as_row}
use Rattle.laws.specs.ReaderStatements.{ReadersAgree}
use Rattle.laws.proofs.Reading.ReadIsSpelled.{all_bytes, takes_slots, item_method}
use Rattle.laws.proofs.Reading.ConstantsAgree.{over, Agree, leaves, leaves_u2, leaves_array, agree_bind, agree_two, agree_many, agree_plain, agree_constant, leaves_constant}
use Rattle.definition.specs.Bytes as parse
use Rattle.definition.specs.Jvms as pools

-- an entry is wide exactly if its constant takes two
same_width : (c : Constant) → is_wide (as_entry c).tag ≡ takes_two c
unfolding is_wide as_entry takes_two
same_width (Utf8 bytes) = refl
same_width (Integer bytes) = refl
same_width (Float bytes) = refl
same_width (Long high low) = refl
same_width (Double high low) = refl
same_width (Class n) = refl
same_width (String n) = refl
same_width (Fieldref m n) = refl
same_width (Methodref m n) = refl
same_width (InterfaceMethodref m n) = refl
same_width (NameAndType m n) = refl
same_width (MethodHandle m n) = refl
same_width (MethodType n) = refl
same_width (Dynamic m n) = refl
same_width (InvokeDynamic m n) = refl
same_width (Module n) = refl
same_width (Package n) = refl

-- a constant in the last slot, and one with slots behind it
agree_last :
    (w : Bool) (c : Constant) →
    Agree (map as_shown) (elim w [ true ↦ parse.fail | false ↦ parse.return (some (as_entry c) ∷ []) ]) (slots 0 w >>= λ rest. return (usable c ∷ rest))
unfolding slots as_shown
agree_last true c bytes b = refl
agree_last false c bytes b = refl

slots-behind : (n : ℕ) (bytes : List ℕ) → slots (suc n) true bytes ≡ and_then (slots n false bytes) (λ rest. return (unusable ∷ rest))
unfolding slots
slots-behind n bytes = refl

agree_next :
    (w : Bool) (n : ℕ) (c : Constant) →
    Agree (map as_shown) (read_slots n) (slots n false) →
    Agree (map as_shown) (read_slots (suc n)) (slots (suc n) false) →
    Agree
    (map as_shown)
    (elim w [ true ↦ parse.◌>>=◌ (read_slots n) (λ rest. parse.return (some (as_entry c) ∷ none ∷ rest)) | false ↦ parse.◌>>=◌ (read_slots (suc n)) (λ rest. parse.return (some (as_entry c) ∷ rest)) ])
    (slots (suc n) w >>= λ rest. return (usable c ∷ rest))
unfolding as_shown
agree_next false n c wide narrow = agree_bind (map as_shown) (map as_shown) (read_slots (suc n)) (slots (suc n) false) _ _ (leaves _ _ (takes_slots (suc n) false)) narrow λ rest bytes b. refl
agree_next true n c wide narrow =
    λ bytes b.
    ap (λ o. parse.and_then o (λ rest. parse.return (some (as_entry c) ∷ none ∷ rest))) (wide bytes b)
    ∙ go (slots n false bytes)
    ∙ ap (λ o. over (map as_shown) (and_then o (λ rest. return (usable c ∷ rest)))) (sym (slots-behind n bytes))
  where
    go :
        (o : Option (List Slot × List ℕ)) →
        parse.and_then (over (map as_shown) o) (λ rest. parse.return (some (as_entry c) ∷ none ∷ rest))
        ≡ over (map as_shown) (and_then (and_then o (λ rest. return (unusable ∷ rest))) (λ rest. return (usable c ∷ rest)))
    go none = refl
    go (some (rest, left)) = refl

agree_slots : (n : ℕ) → Agree (map as_shown) (read_slots n) (slots n false)
unfolding read_slots slots
agree_slots zero = λ bytes b. refl
agree_slots (suc zero) =
    agree_bind as_entry (map as_shown) cp_info cp_info_lem _ _ leaves_constant agree_constant λ c.
    rw (same_width c) (agree_last (takes_two c) c)
agree_slots (suc (suc n)) =
    agree_bind as_entry (map as_shown) cp_info cp_info_lem _ _ leaves_constant agree_constant λ c.
    rw (same_width c) (agree_next (takes_two c) n c (agree_slots n) (agree_slots (suc n)))

agree_below : (n : ℕ) → Agree (map as_shown) (below_count n) (constant_pool n)
unfolding below_count constant_pool
agree_below zero = λ bytes b. refl
agree_below (suc n) = agree_slots n

-- bootstrap methods
agree_method : Agree as_row (read_entry index bootstrap_tag bootstrap_shape) bootstrap_method
unfolding read_entry read_fields bootstrap_shape index with_kids bootstrap_method as_row
agree_method =
    agree_bind (λ n. n) as_row two u2 _ _ leaves_u2 agree_two λ m.
    agree_bind (λ n. n) as_row two u2 _ _ leaves_u2 agree_two λ n.
    agree_bind (λ l. l) as_row (many n two) (array n u2) _ _ (leaves_array u2 leaves_u2 n) (agree_plain two u2 leaves_u2 agree_two n) λ l bytes b. refl

-- nothing is left over
agree_wholly : {A B : Type 0} (f : A → B) (o : Option (A × List ℕ)) → pools.wholly (over f o) ≡ Option.map f (wholly o)
unfolding pools.wholly wholly
agree_wholly f none = refl
agree_wholly f (some (a, [])) = refl
agree_wholly f (some (a, b ∷ bytes)) = refl

agree_pool : (bytes : List ℕ) → IsBytes bytes → read_pool bytes ≡ Option.map (map as_shown) (read_pool_lem bytes)
unfolding read_pool read_pool_lem
agree_pool bytes are =
    ap pools.wholly (agree_bind (λ n. n) (map as_shown) two u2 below_count constant_pool leaves_u2 agree_two agree_below bytes (all_bytes bytes are)) ∙ agree_wholly (map as_shown) _

agree_methods : (n : ℕ) (bytes : List ℕ) → IsBytes bytes → read_bootstraps n bytes ≡ Option.map (map as_row) (read_bootstrap_methods n bytes)
unfolding read_bootstraps read_bootstrap_methods
agree_methods n bytes are =
    ap pools.wholly (agree_many as_row _ bootstrap_method (leaves _ bootstrap_method item_method) agree_method n bytes (all_bytes bytes are)) ∙ agree_wholly (map as_row) _

pub readers_agree : ReadersAgree
readers_agree = (agree_pool, agree_methods)
