-- What `start` does: the regions are laid out and the first nine are zeros, and for a well-formed job the lent words are enough. Assumes nothing.
use mathlib.Core.List.{List, ◌++◌}
use mathlib.Core.Path.{◌≡◌, refl, sym, ap, ◌∙◌}
use Prim.Native.Nat.{ℕ, suc, ◌+◌, ◌*◌, ◌≤◌, ◌<◌}
use native.Mathlib.Omega.{arith}
use lib.ListN.{length, get_or, take, drop, replicate, length-append, length-take, length-drop, length-replicate, get_or-replicate, get_or-append}
use Rattle.job.specs.declared.JobCounts.{JobCounts}
use Rattle.store.specs.Store.{size, On}
use Rattle.store.specs.JobIn.{WellFormed, counts_in}
use Rattle.store.specs.Regions.{places_of, sizes_for, Few, Started, Work}
use Rattle.store.proofs.Stores.{rising, at_store}
use Rattle.store.proofs.Laying.{places_laid, length-places}
use Rattle.store.proofs.Lengths.{words_for}
use Rattle.store.proofs.Bounds.{formed_short, small}
use Rattle.store.proofs.Room.{end_is, room}

module _ (c : JobCounts) (bytes : ℕ) where
  pub sizes_length : length (sizes_for c bytes) ≡ 32
  unfolding sizes_for
  sizes_length = refl

  pub few_end : Few c → bytes ≤ 1048576 → get_or (places_of 0 (sizes_for c bytes)) 32 0 < 1000000000000
  unfolding words_for
  few_end f short = omega (arith, end_is c bytes)

  -- what `lay` asks of the sizes
  pub lay_asks : (sizes : List ℕ) → sizes ≡ sizes_for c bytes → Few c → bytes ≤ 1048576 → (length sizes ≡ 32) × (get_or (places_of 0 sizes) 32 0 < 1000000000000)
  lay_asks sizes e f short = rw e (sizes_length, few_end f short)

  module _ (sizes p : List ℕ) (e : sizes ≡ sizes_for c bytes) (g : p ≡ places_of 0 sizes) where
    pub laid_out : p ≡ places_of 0 (sizes_for c bytes)
    laid_out = g ∙ ap (places_of 0) e

    pub places_length : length p ≡ 33
    places_length = rw laid_out (length-places 0 (sizes_for c bytes) ∙ ap suc sizes_length)

    place_before : (k : ℕ) → k < 33 → get_or p k 0 ≤ get_or (places_of 0 (sizes_for c bytes)) 32 0
    place_before k h = rw laid_out (rising (places_of 0 (sizes_for c bytes)) (places_laid (sizes_for c bytes) sizes_length) k 32 (omega arith) (omega arith))

    -- the words before place n of them are cleared
    module _ (w : List ℕ) (fits : get_or (places_of 0 (sizes_for c bytes)) 32 0 ≤ length w) (n : ℕ) (real : n < 33) where
      pub zeros-fit : get_or p n 0 ≤ length w
      zeros-fit = omega (arith, place_before n real)

      pub zeros-are : get_or p n 0 ≡ length (take (get_or p n 0) w)
      zeros-are = let h = zeros-fit in simp length-take (omega arith)

      module _ (z : List ℕ) (cleared : z ≡ replicate (length (take (get_or p n 0) w)) 0) where
        zeros-length : length z ≡ get_or p n 0
        zeros-length = rw cleared (length-replicate (length (take (get_or p n 0) w)) 0 ∙ sym zeros-are)

        pub same-words : length (z ++ drop (get_or p n 0) w) ≡ length w
        same-words =
            let h = zeros-fit in
            let l = zeros-length in
            simp (length-append, length-drop) (omega arith)

        zero-at : (j : ℕ) → j < get_or p n 0 → get_or (z ++ drop (get_or p n 0) w) j 0 ≡ 0
        zero-at j h =
            get_or-append z (drop (get_or p n 0) w) 0 j (omega (arith, zeros-length))
            ∙ rw cleared (get_or-replicate (length (take (get_or p n 0) w)) j 0 0 (omega (arith, zeros-are)))

        pub started : 9 ≤ n → Started c bytes p w (z ++ drop (get_or p n 0) w)
        unfolding size
        started all =
            let laid = places_laid (sizes_for c bytes) sizes_length in
            record {
              places = laid_out;
              long = same-words;
              on = (rw laid_out laid, omega (arith, same-words, place_before 32 (omega arith)));
              zeros =
                  λ k low i h.
                  at_store p (z ++ drop (get_or p n 0) w) k i h
                  ∙ zero-at (get_or p k 0 + i) (omega (arith, rising p (rw laid_out laid) (suc k) n (omega arith) real));
            }

-- ---- the work of a well-formed job

pub few_counted : (s : List ℕ) → WellFormed s → Few (counts_in s)
few_counted s h =
    let b = small s h in
    record {
      constants = b.constants;
      bootstraps = b.bootstraps;
      references = b.references;
      names = b.names;
      raw_constants = b.raw_constants;
      raw_bootstraps = b.raw_bootstraps;
      requests = b.requests;
    }

module _ (s : List ℕ) (c : JobCounts) (h : WellFormed s) (e : c ≡ counts_in s) where
  -- what `start` asks
  pub start_asks :
      (p w : List ℕ) → length p ≡ 33 → 6 * length s + 1024 ≤ length w →
      Few c × (length p ≡ 33) × (get_or (places_of 0 (sizes_for c (length s))) 32 0 ≤ length w) × (length s ≤ 1048576)
  start_asks p w long fits = rw e (few_counted s h, long, omega (arith, room s h), formed_short s h)

  -- and what it leaves
  pub start_leaves : (p v w : List ℕ) → Started c (length s) p v w → Work s p × On p (length w)
  unfolding Work
  start_leaves p v w f = ((h, f.places ∙ ap (λ d. places_of 0 (sizes_for d (length s))) e), f.on)
