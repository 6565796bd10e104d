-- Hash chains over any items: a head for each hash, and from each item a link to the one before it with the same hash. A link is 0, or one
-- more than an item. Assumes nothing.
use Rattle.std.specs.Prelude.{Bool, true, false, cond, List, ◌≡◌, ℕ, zero, suc, ◌+◌, ◌-◌, ◌*◌, ◌/◌, ◌%◌, ◌≤◌, ◌<◌, eqb, ltb, length, get_or, Option, None, Some}
use Rattle.store.specs.Store.{Store, size, put}

-- one more number in a hash
unfoldable pub mixed : ℕ → ℕ → ℕ
mixed hash x = ((hash + x) * 0x5bd1e995 / 4294967296 + (hash + x) * 0x5bd1e995 % 4294967296) % 4294967296

-- the head of a key's chain: the key itself while it is small, and never head 0 for a key above 0
unfoldable pub head_of : ℕ → ℕ → ℕ
head_of heads key =
    elim (ltb key heads) [ true ↦ key | false ↦ key * 0x9e3779b1 % 4294967296 * (heads - 1) / 4294967296 + 1 ]

-- one more than the last number below n at which q holds; 0 where there is none
abbrev pub last : (ℕ → Bool) → ℕ → ℕ
last q zero = 0
last q (suc i) = cond (q i) (suc i) (last q i)

-- the first n items stand in the chains, item i in the one of its hash
pub record Chains (hash : ℕ → ℕ) (heads links : List ℕ) (n : ℕ) : Type 0 where
  pub first : (k : ℕ) → k < length heads → get_or heads k 0 ≡ last (λ i. eqb (hash i) k) n
  pub next : (i : ℕ) → i < n → get_or links i 0 ≡ last (λ j. eqb (hash j) (hash i)) i

-- the link to an item that was found, or to none
abbrev pub link_of : Option ℕ → ℕ
link_of None = 0
link_of (Some i) = i + 1

-- a search among the first n items for one that is sought: one more than such an item, or 0 and there is none
pub record Sought (is : ℕ → Type 0) (n r : ℕ) : Type 0 where
  pub low : r ≤ n
  pub hit : 0 < r → is (r - 1)
  pub miss : r ≡ 0 → (i : ℕ) → i < n → is i → ⊥

-- a region of heads has two or more, and as few as a word can count
pub record Heads (p : List ℕ) (heads : ℕ) : Type 0 where
  pub real : heads < 26
  pub two : 1 < size p heads
  pub few : size p heads < 4294967296

-- the links of heads k are region k + 5. Item i joins the chain of its key
abbrev pub linked : Store → List ℕ → ℕ → ℕ → ℕ → Store
linked s p heads key i =
    let head = head_of (size p heads) key in
    put (put s (heads + 5) i (get_or (s heads) head 0)) heads head (i + 1)

-- the first n items of a region are numbers, each in the chain of its number
abbrev pub NumbersIn : List ℕ → Store → ℕ → ℕ → ℕ → Type 0
NumbersIn p s heads keys n =
    Chains (λ i. head_of (size p heads) (get_or (s keys) i 0)) (s heads) (s (heads + 5)) n × (n ≤ size p keys) × (n ≤ size p (heads + 5))
