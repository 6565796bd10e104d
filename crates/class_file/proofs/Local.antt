-- What the reader of a pool reads doesn't go by what stands behind it. Assumes nothing.
use mathlib.Core.Bool.{Bool, true, false}
use mathlib.Core.List.{List, [], ◌∷◌, ◌++◌}
use mathlib.Core.Option.{Option, none, some}
use mathlib.Core.Path.{◌≡◌, refl, ap}
use Prim.Native.Nat.{ℕ, zero, suc}
use lib.Dec.{eqb}
use Rattle.jvms.specs.Pool.{Reader, return, fail, and_then, ◌>>=◌, u1, u2, u4, array, Constant, structures, structure, cp_info_lem, takes_two, Slot, slots, constant_pool, read_pool_lem}
use Rattle.jvms.specs.Written.{All}
use Rattle.facts.proofs.Lists.{none≢some}
use Rattle.laws.proofs.Reading.ReadIsSpelled.{wholly-some}

abbrev Local : {A : Type 0} → Reader A → Type 0
Local r = (bytes rest : List ℕ) (a : _) (left : List ℕ) → r bytes ≡ some (a, left) → r (bytes ++ rest) ≡ some (a, left ++ rest)

local_fail : {A : Type 0} → Local {A = A} fail
local_fail bytes rest a left e = none≢some e

local_return : {A : Type 0} (a : A) → Local (return a)
local_return {A} a bytes rest a' left e =
    let same : ◌≡◌ {A = A × List ℕ} (a, bytes) (a', left) = cc in
    ap (λ (x : A × List ℕ). some (x.0, x.1 ++ rest)) same

local_bind : {A B : Type 0} (r : Reader A) (f : A → Reader B) → Local r → ((a : A) → Local (f a)) → Local (r >>= f)
local_bind r f lr lf bytes rest b left = go (r bytes) refl
  where
    go : (o : Option (_ × List ℕ)) → r bytes ≡ o → and_then o f ≡ some (b, left) → and_then (r (bytes ++ rest)) f ≡ some (b, left ++ rest)
    go none e h = none≢some h
    go (some (a, mid)) e h = rw (lr bytes rest a mid e) (lf a mid rest b left h)

local_u1 : Local u1
unfolding u1
local_u1 [] rest a left e = none≢some e
local_u1 (b ∷ bytes) rest a left e = local_return b bytes rest a left e

local_u2 : Local u2
unfolding u2
local_u2 = local_bind u1 _ local_u1 λ a. local_bind u1 _ local_u1 λ b. local_return _

local_u4 : Local u4
unfolding u4
local_u4 = local_bind u2 _ local_u2 λ a. local_bind u2 _ local_u2 λ b. local_return _

local_array : {A : Type 0} (r : Reader A) → Local r → (n : ℕ) → Local (array n r)
unfolding array
local_array r lr zero = local_return []
local_array r lr (suc n) = local_bind r _ lr λ a. local_bind (array n r) _ (local_array r lr n) λ l. local_return (a ∷ l)

-- a structure of one item, and of two
local_one : {A : Type 0} (r : Reader A) (C : A → Constant) → Local r → Local (r >>= λ a. return (C a))
local_one r C lr = local_bind r _ lr λ a. local_return (C a)

local_two : {A B : Type 0} (r : Reader A) (q : Reader B) (C : A → B → Constant) → Local r → Local q → Local (r >>= λ a. q >>= λ b. return (C a b))
local_two r q C lr lq = local_bind r _ lr λ a. local_one q (C a) lq

-- one and then the others
infixr 5 ◌&◌
◌&◌ : {A B : Type 0} → A → B → A × B
◌&◌ a b = (a, b)

local_structures : All (λ (s : ℕ × Reader Constant). Local s.1) structures
unfolding All structures
local_structures =
    (local_bind u2 _ local_u2 λ n. local_one (array n u1) _ (local_array u1 local_u1 n))
    & local_one u4 _ local_u4
    & local_one u4 _ local_u4
    & local_two u4 u4 _ local_u4 local_u4
    & local_two u4 u4 _ local_u4 local_u4
    & local_one u2 _ local_u2
    & local_one u2 _ local_u2
    & local_two u2 u2 _ local_u2 local_u2
    & local_two u2 u2 _ local_u2 local_u2
    & local_two u2 u2 _ local_u2 local_u2
    & local_two u2 u2 _ local_u2 local_u2
    & local_two u1 u2 _ local_u1 local_u2
    & local_one u2 _ local_u2
    & local_two u2 u2 _ local_u2 local_u2
    & local_two u2 u2 _ local_u2 local_u2
    & local_one u2 _ local_u2
    & local_one u2 _ local_u2
    & tt

local_structure : (tag : ℕ) (l : List (ℕ × Reader Constant)) → All (λ (s : ℕ × Reader Constant). Local s.1) l → Local (structure tag l)
unfolding structure All
local_structure tag [] h = local_fail
local_structure tag (s ∷ l) h = go (eqb tag s.0) (local_structure tag l h.1)
  where
    go : (b : Bool) → Local (structure tag l) → Local {A = Constant} (elim b [ true ↦ s.1 | false ↦ structure tag l ])
    go true rest = h.0
    go false rest = rest

local_constant : Local cp_info_lem
unfolding cp_info_lem
local_constant = local_bind u1 _ local_u1 λ tag. local_structure tag structures local_structures

local_slots : (n : ℕ) (wide : Bool) → Local (slots n wide)
unfolding slots
local_slots zero false = local_return []
local_slots zero true = local_fail
local_slots (suc n) false =
    local_bind cp_info_lem _ local_constant λ c. local_bind (slots n (takes_two c)) _ (local_slots n (takes_two c)) λ s. local_return _
local_slots (suc n) true = local_bind (slots n false) _ (local_slots n false) λ s. local_return _

local_below : (n : ℕ) → Local (constant_pool n)
unfolding constant_pool
local_below zero = local_fail
local_below (suc n) = local_slots n false

-- a pool is read with anything behind it
pub pool_before : (pool rest : List ℕ) (s : List Slot) → read_pool_lem pool ≡ some s → (u2 >>= constant_pool) (pool ++ rest) ≡ some (s, rest)
unfolding read_pool_lem
pool_before pool rest s e = local_bind u2 constant_pool local_u2 local_below pool rest s [] (wholly-some _ s e)
