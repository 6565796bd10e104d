-- The loop that lays out the places, and the regions that start as zeros. Assumes nothing.
use mathlib.Core.List.{List}
use mathlib.Core.Path.{◌≡◌, sym, ap, ◌∙◌}
use Prim.Native.Nat.{ℕ, suc, ◌+◌, ◌≤◌, ◌<◌}
use native.Mathlib.Numerals.{add-one}
use native.Mathlib.Omega.{arith}
use lib.ListN.{length, get_or, set, length-set}
use lib.Seq.{get_or-set_same, ext_get_or}
use Rattle.store.specs.Regions.{places_of}
use Rattle.store.proofs.Stores.{rising}
use Rattle.store.proofs.Laying.{length-places, head_place, next_place, places_laid}
use Rattle.facts.proofs.Lists.{each_set}

-- the places up to k are laid out
pub record Laying (p sizes : List ℕ) (k : ℕ) : Type 0 where
  pub long : length p ≡ 33
  pub upto : k ≤ 32
  pub done : (j : ℕ) → j ≤ k → get_or p j 0 ≡ get_or (places_of 0 sizes) j 0

pub lay_begin : (p sizes : List ℕ) → length p ≡ 33 → Laying (set p 0 0) sizes 0
lay_begin p sizes e =
    record {
      long = length-set p 0 0 ∙ e;
      upto = omega arith;
      done = λ j h. let z : j ≡ 0 = omega arith in rw z (get_or-set_same p 0 0 0 (omega arith) ∙ sym (head_place 0 sizes));
    }

module _ (p sizes : List ℕ) (k : ℕ) (e : length sizes ≡ 32) (g : Laying p sizes k) where
  -- the next place is below the last
  pub lay_fits : k < 32 → get_or p k 0 + get_or sizes k 0 ≤ get_or (places_of 0 sizes) 32 0
  lay_fits h =
      let last = rising (places_of 0 sizes) (places_laid sizes e) (suc k) 32 (omega arith) (omega arith) in
      omega (arith, g.done k (omega arith), next_place 0 sizes k (omega arith), last)

  pub lay_next : k < 32 → Laying (set p (k + 1) (get_or p k 0 + get_or sizes k 0)) sizes (k + 1)
  lay_next h =
      record {
        long = length-set p (k + 1) (get_or p k 0 + get_or sizes k 0) ∙ g.long;
        upto = omega arith;
        done =
            each_set
            (λ j x. j ≤ k + 1 → x ≡ get_or (places_of 0 sizes) j 0)
            p
            (k + 1)
            (get_or p k 0 + get_or sizes k 0)
            (omega (arith, g.long))
            (λ _. rw add-one (sym (next_place 0 sizes k (omega arith) ∙ ap (λ (x : ℕ). x + get_or sizes k 0) (sym (g.done k (omega arith))))))
            (λ j d l. g.done j (omega arith));
      }

  pub lay_end : 32 ≤ k → p ≡ places_of 0 sizes
  lay_end h = ext_get_or 0 p (places_of 0 sizes) (g.long ∙ sym (length-places 0 sizes ∙ ap suc e)) (λ j l. g.done j (omega (arith, g.long)))
