-- A list in which some may move and the others keep their order comes of exchanging one that may with its neighbour, over and over. Assumes
-- nothing.
use mathlib.Core.Bool.{Bool, true, false, ◌||◌, not}
use mathlib.Core.List.{List, [], ◌∷◌, ◌++◌, map, map-append}
use mathlib.Core.Path.{◌≡◌, refl, ap, sym, ◌∙◌}
use Prim.Native.Nat.{ℕ, suc, ◌+◌, ◌<◌}
use native.Mathlib.Omega.{arith}
use lib.ListN.{length, length-append}
use Rattle.definition.specs.Basics.{same, only, concat}
use Rattle.definition.specs.Job.{Definition, define, named, placed, setting}
use Rattle.facts.proofs.Lists.{clash, true≢false, same_true, same_refl, only_here, only-later, only-more}
use Rattle.facts.proofs.Each.{Each}
use Rattle.order.specs.OrderStatement.{moves, Moved}

-- a definition 41 to 44
unfoldable pub may_move : {L : Type 0} → Definition L → Bool
may_move (define e) = false
may_move (named kind s r) = true
may_move (placed kind at number) = true
may_move (setting rule) = false

-- one that may move changes places with its neighbour, over and over
pub data Exchanged {X : Type 0} (may : X → Bool) : List X → List X → Type 0 where
  unmoved : (l : List X) → Exchanged may l l
  exchanged :
      (before after : List X) (x y : X) (l : List X) →
      (may x || may y) ≡ true →
      Exchanged may (before ++ y ∷ x ∷ after) l →
      Exchanged may (before ++ x ∷ y ∷ after) l

module _ {X : Type 0} (may : X → Bool) where
  also : (k l m : List X) → Exchanged may k l → Exchanged may l m → Exchanged may k m
  also k l m (unmoved l') q = q
  also k l m (exchanged before after x y l' h p) q = exchanged before after x y m h (also (before ++ y ∷ x ∷ after) l m p q)

  behind : (z : X) (k l : List X) → Exchanged may k l → Exchanged may (z ∷ k) (z ∷ l)
  behind z k l (unmoved l') = unmoved (z ∷ l)
  behind z k l (exchanged before after x y l' h p) = exchanged (z ∷ before) after x y (z ∷ l) h (behind z (before ++ y ∷ x ∷ after) l p)

  -- the first goes behind some others, if it may or all of them may
  past : (x : X) (before after : List X) → Each (λ y. (may x || may y) ≡ true) before → Exchanged may (x ∷ before ++ after) (before ++ x ∷ after)
  past x [] after h = unmoved (x ∷ after)
  past x (y ∷ before) after h =
      exchanged [] (before ++ after) x y (y ∷ before ++ x ∷ after) h.0 (behind y (x ∷ before ++ after) (before ++ x ∷ after) (past x before after h.1))

  -- what every one has, it has after an exchange
  each_turned : (P : X → Type 0) (before after : List X) (x y : X) → Each P (before ++ x ∷ y ∷ after) → P x × P y × Each P (before ++ y ∷ x ∷ after)
  each_turned P [] after x y h = (h.0, h.1.0, (h.1.0, (h.0, h.1.1)))
  each_turned P (z ∷ before) after x y h =
      let (px, py, rest) = each_turned P before after x y h.1 in
      (px, py, (h.0, rest))

  pub each_exchanged : (P : X → Type 0) (k l : List X) → Exchanged may k l → Each P k → Each P l
  each_exchanged P k l (unmoved l') h = h
  each_exchanged P k l (exchanged before after x y l' m p) h = each_exchanged P (before ++ y ∷ x ∷ after) l p (each_turned P before after x y h).2

  -- and there are as many
  length-turned : (before after : List X) (x y : X) → length (before ++ x ∷ y ∷ after) ≡ length (before ++ y ∷ x ∷ after)
  length-turned [] after x y = refl
  length-turned (z ∷ before) after x y = ap suc (length-turned before after x y)

  pub length_exchanged : (k l : List X) → Exchanged may k l → length k ≡ length l
  length_exchanged k l (unmoved l') = refl
  length_exchanged k l (exchanged before after x y l' h p) = length-turned before after x y ∙ length_exchanged (before ++ y ∷ x ∷ after) l p

-- under a function that leaves what may move
pub map-exchanged :
    {X Y : Type 0} (may : X → Bool) (may' : Y → Bool) (f : X → Y) (k l : List X) →
    Each (λ x. may' (f x) ≡ may x) k →
    Exchanged may k l →
    Exchanged may' (map f k) (map f l)
map-exchanged may may' f k l each (unmoved l') = unmoved (map f l)
map-exchanged may may' f k l each (exchanged before after x y l' h p) =
    let (mx, my, rest) = each_turned may (λ x. may' (f x) ≡ may x) before after x y each in
    let there = map-exchanged may may' f (before ++ y ∷ x ∷ after) l rest p in
    rw (map-append f before (x ∷ y ∷ after))
    (exchanged (map f before) (map f after) (f x) (f y) (map f l) ((λ i. mx i || my i) ∙ h) (rw (map-append f before (y ∷ x ∷ after)) at there))

-- ---- records

-- as many bytes
bytes-turned : (before after : List (List ℕ)) (x y : List ℕ) → length (concat (before ++ x ∷ y ∷ after)) ≡ length (concat (before ++ y ∷ x ∷ after))
unfolding concat
bytes-turned [] after x y =
    let a = length-append x (y ++ concat after) in
    let b = length-append y (concat after) in
    let c = length-append y (x ++ concat after) in
    let d = length-append x (concat after) in
    omega arith
bytes-turned (z ∷ before) after x y =
    length-append z (concat (before ++ x ∷ y ∷ after)) ∙ ap (λ n. length z + n) (bytes-turned before after x y) ∙ sym (length-append z (concat (before ++ y ∷ x ∷ after)))

pub bytes-exchanged : (may : List ℕ → Bool) (rs₁ rs₂ : List (List ℕ)) → Exchanged may rs₁ rs₂ → length (concat rs₁) ≡ length (concat rs₂)
bytes-exchanged may rs₁ rs₂ (unmoved rs) = refl
bytes-exchanged may rs₁ rs₂ (exchanged before after x y rs h p) = bytes-turned before after x y ∙ bytes-exchanged may (before ++ y ∷ x ∷ after) rs₂ p

-- how often a record stands among others
abbrev count : List ℕ → List (List ℕ) → ℕ
count r rs = length (only (same r) rs)

abbrev stays : List ℕ → Bool
stays r = not (moves r)

-- one that stands there does so a first time
record First (x : List ℕ) (rs : List (List ℕ)) : Type 0 where
  before : List (List ℕ)
  after : List (List ℕ)
  split : rs ≡ before ++ x ∷ after
  first : only (same x) before ≡ []

find : (x : List ℕ) (rs : List (List ℕ)) → 0 < count x rs → First x rs
unfolding only
find x [] h = absurd (omega arith)
find x (y ∷ rs) h = go (same x y) refl (find x rs)
  where
    go : (b : Bool) → same x y ≡ b → (0 < count x rs → First x rs) → First x (y ∷ rs)
    go true e rest = record { before = []; after = rs; split = ap (λ z. z ∷ rs) (sym (same_true x y e)); first = refl }
    go false e rest =
        let f = rest (rw (only-later (same x) y rs e) at h) in
        record {
          before = y ∷ f.before;
          after = f.after;
          split = ap (λ l. y ∷ l) f.split;
          first = only-later (same x) y f.before e ∙ f.first;
        }

-- a record among others counts as in front of them
count_inside : (p : List ℕ → Bool) (x : List ℕ) (before after : List (List ℕ)) → length (only p (before ++ x ∷ after)) ≡ length (only p (x ∷ before ++ after))
count_inside p x [] after = refl
count_inside p x (y ∷ before) after =
    let a = only-more p y (before ++ x ∷ after) in
    let b = only-more p x (y ∷ before ++ after) in
    let c = only-more p y (before ++ after) in
    let d = only-more p x (before ++ after) in
    let e = count_inside p x before after in
    omega arith

-- one that moves isn't among those that stay
stays_without : (x : List ℕ) (before after : List (List ℕ)) → stays x ≡ false → only stays (before ++ x ∷ after) ≡ only stays (before ++ after)
stays_without x [] after h = only-later stays x after h
stays_without x (y ∷ before) after h = go (stays y) refl (stays_without x before after h)
  where
    go : (b : Bool) → stays y ≡ b → only stays (before ++ x ∷ after) ≡ only stays (before ++ after) → only stays (y ∷ before ++ x ∷ after) ≡ only stays (y ∷ before ++ after)
    go true e rest = only_here stays y (before ++ x ∷ after) e ∙ ap (λ l. y ∷ l) rest ∙ sym (only_here stays y (before ++ after) e)
    go false e rest = only-later stays y (before ++ x ∷ after) e ∙ rest ∙ sym (only-later stays y (before ++ after) e)

-- if the first that stays is x, all that stand before the first x move
moves_before :
    (x : List ℕ) (before after t : List (List ℕ)) →
    stays x ≡ true →
    only (same x) before ≡ [] →
    only stays (before ++ x ∷ after) ≡ x ∷ t →
    Each (λ y. moves y ≡ true) before × (only stays (before ++ after) ≡ t)
moves_before x [] after t h f e =
    let here = sym (only_here stays x after h) ∙ e in
    (tt, cc)
moves_before x (y ∷ before) after t h f e = go (stays y) refl (moves_before x before after t h)
  where
    go :
        (b : Bool) →
        stays y ≡ b →
        (only (same x) before ≡ [] → only stays (before ++ x ∷ after) ≡ x ∷ t → Each (λ y. moves y ≡ true) before × (only stays (before ++ after) ≡ t)) →
        Each (λ y. moves y ≡ true) (y ∷ before) × (only stays (y ∷ before ++ after) ≡ t)
    go true s rest =
        let here = sym (only_here stays y (before ++ x ∷ after) s) ∙ e in
        let is : x ≡ y = cc in
        let there = sym (only_here (same x) y before (ap (same x) (sym is) ∙ same_refl x)) ∙ f in
        clash (cc)
    go false s rest =
        let (all, left) = rest (none-later (same x y) refl) (sym (only-later stays y (before ++ x ∷ after) s) ∙ e) in
        ((stayed (moves y) refl, all), only-later stays y (before ++ after) s ∙ left)
      where
        none-later : (b : Bool) → same x y ≡ b → only (same x) before ≡ []
        none-later true q = let there = sym (only_here (same x) y before q) ∙ f in clash (cc)
        none-later false q = sym (only-later (same x) y before q) ∙ f

        stayed : (b : Bool) → moves y ≡ b → moves y ≡ true
        stayed true q = q
        stayed false q = true≢false (sym (ap not q) ∙ s)

-- THE SAME RECORDS with those that aren't 41 to 44 in their old order come of such exchanges
pub moved_exchanged : (rs₁ rs₂ : List (List ℕ)) → Moved rs₁ rs₂ → Exchanged moves rs₁ rs₂
unfolding only
moved_exchanged [] [] m = unmoved []
moved_exchanged [] (y ∷ rs) m =
    let none = m.same_records y in
    let some = only_here (same y) y rs (same_refl y) in
    let many = ap (λ (l : List (List ℕ)). length l) some in
    absurd (omega arith)
moved_exchanged (x ∷ rs₁) rs₂ m = go (moves x) refl (moved_exchanged rs₁)
  where
    f : First x rs₂
    f =
        let here = ap (λ (l : List (List ℕ)). length l) (only_here (same x) x rs₁ (same_refl x)) in
        find x rs₂ (rw (← m.same_records x) (omega arith))

    left : List (List ℕ)
    left = f.before ++ f.after

    counts : (r : List ℕ) → count r rs₁ ≡ count r left
    counts r =
        let a = only-more (same r) x rs₁ in
        let b = only-more (same r) x left in
        let c = count_inside (same r) x f.before f.after in
        let d = m.same_records r in
        let e = ap (count r) f.split in
        omega arith

    order : only stays (x ∷ rs₁) ≡ only stays (f.before ++ x ∷ f.after)
    order = m.old_order ∙ ap (only stays) f.split

    all : (b : Bool) (l : List (List ℕ)) → moves x ≡ b → Each (λ y. (b || moves y) ≡ true) l → Each (λ y. (moves x || moves y) ≡ true) l
    all b l e h = rw e h

    each_true : (l : List (List ℕ)) → Each (λ y. (true || moves y) ≡ true) l
    each_true [] = tt
    each_true (y ∷ l) = (refl, each_true l)

    end : Moved rs₁ left → Each (λ y. (moves x || moves y) ≡ true) f.before → ((l : List (List ℕ)) → Moved rs₁ l → Exchanged moves rs₁ l) → Exchanged moves (x ∷ rs₁) rs₂
    end m' may rest =
        rw f.split
        (also moves (x ∷ rs₁) (x ∷ left) (f.before ++ x ∷ f.after) (behind moves x rs₁ left (rest left m')) (past moves x f.before f.after may))

    go : (b : Bool) → moves x ≡ b → ((l : List (List ℕ)) → Moved rs₁ l → Exchanged moves rs₁ l) → Exchanged moves (x ∷ rs₁) rs₂
    go true e rest =
        let still = sym (only-later stays x rs₁ (ap not e)) ∙ order ∙ stays_without x f.before f.after (ap not e) in
        end (record { same_records = counts; old_order = still }) (all true f.before e (each_true f.before)) rest
    go false e rest =
        let (may, now) = moves_before x f.before f.after (only stays rs₁) (ap not e) f.first (sym order ∙ only_here stays x rs₁ (ap not e)) in
        end (record { same_records = counts; old_order = sym now }) (all false f.before e may) rest

-- ---- and such exchanges leave the same records, with those that aren't 41 to 44 in their old order

counts_turned :
    (p : List ℕ → Bool) (before after : List (List ℕ)) (x y : List ℕ) → length (only p (before ++ x ∷ y ∷ after)) ≡ length (only p (before ++ y ∷ x ∷ after))
counts_turned p [] after x y =
    let a = only-more p x (y ∷ after) in
    let b = only-more p y after in
    let c = only-more p y (x ∷ after) in
    let d = only-more p x after in
    omega arith
counts_turned p (z ∷ before) after x y =
    let a = only-more p z (before ++ x ∷ y ∷ after) in
    let b = only-more p z (before ++ y ∷ x ∷ after) in
    let c = counts_turned p before after x y in
    omega arith

stays_turned :
    (before after : List (List ℕ)) (x y : List ℕ) →
    (moves x || moves y) ≡ true →
    only stays (before ++ x ∷ y ∷ after) ≡ only stays (before ++ y ∷ x ∷ after)
stays_turned [] after x y h = go (moves x) (moves y) refl refl h
  where
    go : (a b : Bool) → moves x ≡ a → moves y ≡ b → (a || b) ≡ true → only stays (x ∷ y ∷ after) ≡ only stays (y ∷ x ∷ after)
    go true b e f h = stays_without x [] (y ∷ after) (ap not e) ∙ sym (stays_without x (y ∷ []) after (ap not e))
    go false true e f h = stays_without y (x ∷ []) after (ap not f) ∙ sym (stays_without y [] (x ∷ after) (ap not f))
    go false false e f h = true≢false (sym h)
stays_turned (z ∷ before) after x y h = go (stays z) refl (stays_turned before after x y h)
  where
    go :
        (b : Bool) →
        stays z ≡ b →
        only stays (before ++ x ∷ y ∷ after) ≡ only stays (before ++ y ∷ x ∷ after) →
        only stays (z ∷ before ++ x ∷ y ∷ after) ≡ only stays (z ∷ before ++ y ∷ x ∷ after)
    go true e rest = only_here stays z (before ++ x ∷ y ∷ after) e ∙ ap (λ l. z ∷ l) rest ∙ sym (only_here stays z (before ++ y ∷ x ∷ after) e)
    go false e rest = only-later stays z (before ++ x ∷ y ∷ after) e ∙ rest ∙ sym (only-later stays z (before ++ y ∷ x ∷ after) e)

pub exchanged_moved : (rs₁ rs₂ : List (List ℕ)) → Exchanged moves rs₁ rs₂ → Moved rs₁ rs₂
exchanged_moved rs₁ rs₂ (unmoved rs) = record { same_records = λ _. refl; old_order = refl }
exchanged_moved rs₁ rs₂ (exchanged before after x y rs h p) =
    let m = exchanged_moved (before ++ y ∷ x ∷ after) rs₂ p in
    record {
      same_records = λ r. counts_turned (same r) before after x y ∙ m.same_records r;
      old_order = stays_turned before after x y h ∙ m.old_order;
    }
