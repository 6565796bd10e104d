-- Bootstrap methods, one behind the other: a pass over them, and what it leaves in a table. Assumes nothing.
use mathlib.Core.Bool.{Bool, true, false}
use mathlib.Core.List.{List, [], ◌∷◌, ◌++◌, append-nil, append_assoc}
use mathlib.Core.Option.{Option, none, some}
use mathlib.Core.Path.{◌≡◌, refl, sym, ap, ap₂, subst, ◌∙◌}
use Prim.Native.Nat.{ℕ, zero, suc, ◌+◌, ◌*◌, ◌-◌, ◌<◌, ◌≤◌}
use native.Mathlib.Nat.{zero-add}
use native.Mathlib.Omega.{arith}
use lib.Dec.{eqb}
use lib.ListN.{length, drop, get_or, get_elem?, set, length-append, get_or-append}
use lib.Seq.{drop-length, drop-cons, sets, length-sets, sets-eq}
use borrow.Author.Tests.{eqb-true, eqb-false}
use Rattle.jvms.specs.Pool.{return, and_then, ◌>>=◌, u2, array, wholly, BootstrapMethod, bootstrap_method, read_bootstrap_methods}
use Rattle.jvms.specs.Written.{bytes2, each_of, bootstrap_method_bytes}
use Rattle.writer.specs.Numbers.{number2}
use Rattle.facts.proofs.Lists.{none≢some, some_inj, found_inside, same_place}
use Rattle.laws.proofs.Reading.ReadIsSpelled.{wholly-some}
use Rattle.places.specs.Standing.{MethodAt, MethodsNoted}
use Rattle.places.specs.Noting.{starts, starts_up_to, MethodPassed, MethodsPut}
use Rattle.std.specs.Prelude.{Some, None}
use Rattle.places.proofs.Finding.{then_nothing, then_joined, Finds, finds_return, finds_bind, finds_itself, MethodStands, finds_method}
use Rattle.places.proofs.Counting.{read_u2}

-- so many indexes
read_indexes : (n : ℕ) (s : List ℕ) (p : ℕ) → p + 2 * n ≤ length s → (l : List ℕ) × (array n u2 (drop p s) ≡ some (l, drop (p + 2 * n) s))
unfolding array
read_indexes zero s p enough = let e : p ≡ p + 2 * 0 = omega arith in ([], ap (λ q. some ([], drop q s)) e)
read_indexes (suc n) s p enough =
    let (l, more) = read_indexes n s (p + 2) (omega arith) in
    let e : p + 2 + 2 * n ≡ p + 2 * suc n = omega arith in
    let first = read_u2 s p (omega arith) in
    (number2 s p ∷ l, rw (first, more, e))

-- a bootstrap method is cut off, or there
module _ (s : List ℕ) (p : ℕ) where
  no_method : ((m : BootstrapMethod) (e : ℕ) → MethodStands s p m e → ⊥) → bootstrap_method (drop p s) ≡ none
  no_method not = go (bootstrap_method (drop p s)) refl
    where
      go : (o : Option (BootstrapMethod × List ℕ)) → bootstrap_method (drop p s) ≡ o → bootstrap_method (drop p s) ≡ none
      go none e = e
      go (some (m, rest)) e = let (end, low, left, is) = finds_method s p m rest e in absurd (not m end is)

  pub method_short : length s < p + 4 → MethodPassed s p None
  method_short few = no_method (λ m e is. omega (arith, is.room))

  pub method_cut : (n : ℕ) → n ≡ number2 s (p + 2) → length s < p + 4 + 2 * n → MethodPassed s p None
  method_cut n size few = no_method (λ m e is. omega (arith, is.room, is.count))

  pub method_there : (n : ℕ) → n ≡ number2 s (p + 2) → p + 4 + 2 * n ≤ length s → MethodPassed s p (Some (p + 4 + 2 * n))
  unfolding bootstrap_method
  method_there n is enough =
      let place : p + 2 + 2 ≡ p + 4 = omega arith in
      let handle = read_u2 s p (omega arith) in
      let size = read_u2 s (p + 2) (omega arith) in
      let (l, more) = read_indexes n s (p + 4) (omega arith) in
      (record { bootstrap_method_ref = number2 s p; bootstrap_arguments = l }, rw (handle, size, place, ← is, more), enough)

-- a method takes the bytes that it is written as
method_size : (m : BootstrapMethod) → length (bootstrap_method_bytes m) ≡ 4 + 2 * length m.bootstrap_arguments
unfolding bootstrap_method_bytes bytes2 each_of
method_size m = omega (arith, sizes m.bootstrap_arguments)
  where
    sizes : (l : List ℕ) → length (each_of bytes2 l) ≡ 2 * length l
    sizes [] = omega arith
    sizes (x ∷ l) = omega (arith, sizes l)

-- one place more, in the list and in the table
total_more :
    (l : List BootstrapMethod) (m : BootstrapMethod) →
    length (each_of bootstrap_method_bytes (l ++ m ∷ [])) ≡ length (each_of bootstrap_method_bytes l) + length (bootstrap_method_bytes m)
unfolding each_of
total_more [] m = simp append-nil (omega arith)
total_more (x ∷ l) m = simp length-append (omega (arith, total_more l m))

starts_more :
    (l : List BootstrapMethod) (m : BootstrapMethod) (p : ℕ) → starts (l ++ m ∷ []) p ≡ starts l p ++ (p + length (each_of bootstrap_method_bytes l)) ∷ []
unfolding starts each_of
starts_more [] m p = ap (λ q. q ∷ []) (omega arith)
starts_more (x ∷ l) m p =
    let next = p + length (bootstrap_method_bytes x) in
    let e : next + length (each_of bootstrap_method_bytes l) ≡ p + length (bootstrap_method_bytes x ++ each_of bootstrap_method_bytes l) =
    simp length-append (omega arith) in
    ap (λ r. p ∷ r) (starts_more l m next ∙ ap (λ q. starts l next ++ q ∷ []) e)

starts-length : (l : List BootstrapMethod) (p : ℕ) → length (starts l p) ≡ length l
unfolding starts
starts-length [] p = refl
starts-length (x ∷ l) p = ap suc (starts-length l (p + length (bootstrap_method_bytes x)))

sets_more : (vs table : List ℕ) (i v : ℕ) → sets table i (vs ++ v ∷ []) ≡ set (sets table i vs) (i + length vs) v
sets_more [] table i v = ap (λ j. set table j v) (omega arith)
sets_more (x ∷ vs) table i v = sets_more vs (set table i x) (suc i) v ∙ ap (λ j. set (sets (set table i x) (suc i) vs) j v) (omega arith)

-- what a pass over methods found up to a place, whose places stand in the table, and behind them the rest is read there
pub record Passed (bytes before : List ℕ) (at i : ℕ) (table : List ℕ) : Type 0 where
  pub found : List BootstrapMethod
  pub many : i ≡ length found
  pub here : at ≡ length (each_of bootstrap_method_bytes found)
  pub inside : at ≤ length bytes
  pub noted : table ≡ sets before 0 (starts found 0)
  pub reads :
      (k : ℕ) → array (length found + k) bootstrap_method bytes ≡ and_then (array k bootstrap_method (drop at bytes)) (λ more. return (found ++ more))
  pub leaves : (k : ℕ) → starts_up_to (length found + k) bytes 0 ≡ starts found 0 ++ starts_up_to k bytes at

pub passed_none : (bytes before : List ℕ) → Passed bytes before 0 0 before
unfolding starts each_of
passed_none bytes before =
    record {
      found = [];
      many = refl;
      here = refl;
      inside = omega arith;
      noted = refl;
      reads = λ k. ap (λ n. array n bootstrap_method bytes) (zero-add k) ∙ then_nothing (array k bootstrap_method bytes);
      leaves = λ k. ap (λ n. starts_up_to n bytes 0) (zero-add k);
    }

module _ {bytes before : List ℕ} {at i : ℕ} {table : List ℕ} (p : Passed bytes before at i table) where
  pub passed-more : (next : ℕ) → MethodPassed bytes at (Some next) → Passed bytes before next (i + 1) (set table i at)
  unfolding array starts_up_to
  passed-more next (m, read, inside) =
      let (e, low, left, stands) = finds_method bytes at m (drop next bytes) read in
      let ends : next ≡ at + length (bootstrap_method_bytes m) = omega (arith, same_place bytes next e inside low left, stands.behind, method_size m) in
      let index : i ≡ 0 + length (starts p.found 0) = omega (arith, p.many, starts-length p.found 0) in
      let place : at ≡ 0 + length (each_of bootstrap_method_bytes p.found) = omega (arith, p.here) in
      let size : (k : ℕ) → length (p.found ++ m ∷ []) + k ≡ length p.found + suc k = λ k. simp length-append (omega arith) in
      record {
        found = p.found ++ m ∷ [];
        many = simp length-append (omega (arith, p.many));
        here = omega (arith, p.here, total_more p.found m);
        inside = inside;
        noted =
            ap (λ l. set l i at) p.noted
            ∙ ap₂ (λ j v. set (sets before 0 (starts p.found 0)) j v) index place
            ∙ sym (sets_more (starts p.found 0) before 0 (0 + length (each_of bootstrap_method_bytes p.found)))
            ∙ ap (sets before 0) (sym (starts_more p.found m 0));
        reads = λ k.
            ap (λ n. array n bootstrap_method bytes) (size k)
            ∙ p.reads (suc k)
            ∙ ap (λ o. and_then (and_then o (λ a. array k bootstrap_method >>= λ l. return (a ∷ l))) (λ more. return (p.found ++ more))) read
            ∙ then_joined p.found (m ∷ []) (array k bootstrap_method (drop next bytes));
        leaves = λ k.
            let here : starts_up_to (suc k) bytes at ≡ at ∷ starts_up_to k bytes next = rw (starts_up_to, read, ends) in
            ap (λ n. starts_up_to n bytes 0) (size k)
            ∙ p.leaves (suc k)
            ∙ ap (λ l. starts p.found 0 ++ l) (here ∙ ap (λ q. q ∷ starts_up_to k bytes next) place)
            ∙ sym (append_assoc (starts p.found 0) ((0 + length (each_of bootstrap_method_bytes p.found)) ∷ []) (starts_up_to k bytes next))
            ∙ ap (λ l. l ++ starts_up_to k bytes next) (sym (starts_more p.found m 0));
      }

  passed-size : length table ≡ length before
  passed-size = ap length p.noted ∙ length-sets before 0 (starts p.found 0)

  -- no method stands here, though one more is asked for
  pub passed-bad : MethodPassed bytes at None → (n : ℕ) → i < n → MethodsPut bytes n before table false
  unfolding read_bootstrap_methods array wholly starts_up_to
  passed-bad read n more =
      let k = n - i - 1 in
      let size : n ≡ length p.found + suc k = omega (arith, p.many) in
      let none : array n bootstrap_method bytes ≡ none = rw size (p.reads (suc k) ∙ rw read) in
      let left : starts_up_to n bytes 0 ≡ starts p.found 0 = rw size (p.leaves (suc k) ∙ rw (starts_up_to, read) (append-nil (starts p.found 0))) in
      (ap wholly none, passed-size, p.noted ∙ ap (sets before 0) (sym left))

  -- all methods are found, and they take all bytes or not
  pub passed-all : (n : ℕ) → n ≡ i → MethodsPut bytes n before table (eqb at (length bytes))
  unfolding read_bootstrap_methods array wholly starts_up_to
  passed-all n last = go (eqb at (length bytes)) refl
    where
      size : n ≡ length p.found + 0
      size = omega (arith, p.many)

      all : array n bootstrap_method bytes ≡ some (p.found, drop at bytes)
      all = rw size (p.reads 0 ∙ ap (λ l. some (l, drop at bytes)) (append-nil p.found))

      go : (b : Bool) → eqb at (length bytes) ≡ b → MethodsPut bytes n before table b
      go true e =
          let end : at ≡ length bytes = eqb-true at (length bytes) e in
          (p.found, ap wholly (all ∙ ap (λ l. some (p.found, l)) (ap (λ q. drop q bytes) end ∙ drop-length bytes)), omega (arith, p.many), p.noted)
      go false e =
          let left : starts_up_to n bytes 0 ≡ starts p.found 0 = rw size (p.leaves 0 ∙ append-nil (starts p.found 0)) in
          let low : at < length bytes = omega (arith, eqb-false at (length bytes) e, p.inside) in
          (ap wholly (all ∙ ap (λ l. some (p.found, l)) (drop-cons bytes at 0 low)), passed-size, p.noted ∙ ap (sets before 0) (sym left))

-- methods that are read stand at their places
abbrev InRow : List ℕ → ℕ → List BootstrapMethod → Type 0
InRow s p l = (k : ℕ) (m : BootstrapMethod) → get_elem? l k ≡ some m → MethodAt s (get_or (starts l p) k 0) m

finds_methods : (n : ℕ) (s : List ℕ) (p : ℕ) → p ≤ length s → Finds (λ l e. InRow s p l) (array n bootstrap_method) s p
unfolding array starts
finds_methods zero s p inside = finds_return _ [] s p inside (λ k m is. none≢some is)
finds_methods (suc n) s p inside =
    let first = finds_itself (MethodStands s p) bootstrap_method s p (finds_method s p) in
    finds_bind (λ m e. (bootstrap_method (drop p s) ≡ some (m, drop e s)) × MethodStands s p m e) _ bootstrap_method _ s p first λ m e in₁ h.
    finds_bind (λ l e'. InRow s e l) _ (array n bootstrap_method) _ s e (finds_methods n s e in₁) λ l e' in₂ rest.
    let ends : e ≡ p + length (bootstrap_method_bytes m) = omega (arith, h.1.behind, method_size m) in
    finds_return _ (m ∷ l) s e' in₂ (each m l (drop e s, h.0) (rw ends at rest))
  where
    each : (m : BootstrapMethod) (l : List BootstrapMethod) → MethodAt s p m → InRow s (p + length (bootstrap_method_bytes m)) l → InRow s p (m ∷ l)
    each m l there rest zero x is = subst (λ y. MethodAt s p y) (some_inj is) there
    each m l there rest (suc k) x is = rest k x is

-- a table that their places were put into is a note of them
pub methods_table :
    (bytes : List ℕ) (count : ℕ) (before after : List ℕ) → length before ≡ 65536 → count < 65536 → (h : MethodsPut bytes count before after true) →
    MethodsNoted bytes h.0 after
unfolding read_bootstrap_methods
methods_table bytes count before after size few h =
    let (methods, read, many, is) = h in
    let (e, low, left, there) = finds_methods count bytes 0 (omega arith) methods [] (wholly-some _ methods read) in
    let fits : 0 + length (starts methods 0) ≤ length before = omega (arith, starts-length methods 0) in
    record {
      size = ap length is ∙ length-sets before 0 (starts methods 0) ∙ size;
      begins = λ i m at.
          let inside : i < length (starts methods 0) = omega (arith, starts-length methods 0, found_inside methods i m at) in
          let place : get_or after i 0 ≡ get_or (starts methods 0) i 0 =
          ap (λ l. get_or l i 0) (is ∙ sets-eq (starts methods 0) before 0 fits) ∙ get_or-append (starts methods 0) _ 0 i inside in
          rw place (there i m at);
    }
