-- Texts put one behind the other (specs/Printed.antt). Assumes nothing.
use mathlib.Core.List.{List, [], ◌∷◌, ◌++◌, append_assoc}
use mathlib.Core.Logic.{◌⊎◌, inl, inr}
use mathlib.Core.Path.{◌≡◌, refl, sym, ap, subst, ◌∙◌}
use Prim.Native.Nat.{ℕ, suc, ◌+◌, ◌≤◌, ◌<◌}
use native.Mathlib.Numerals.{add-one}
use native.Mathlib.Omega.{arith}
use lib.ListN.{length, take, drop, set, get_or, length-append, length-set, drop_of_length-le}
use lib.Seq.{paste, paste-zero, paste-suc, take-paste, drop-paste, take-length, drop-drop, drop-cons}
use borrow.Author.Tests.{le-leb, lt-leb}
use Rattle.facts.proofs.Lists.{order}
use Rattle.printing.specs.Printed.{capped, CanPut, Printed, Ready, Prints}
use Rattle.printing.specs.declared.Printer.{Printer}

pub capped-in : (room n : ℕ) → n ≤ room → capped room n ≡ n
unfolding capped
capped-in room n h = rw (le-leb n room h, capped) refl

pub capped-past : (room n : ℕ) → room < n → capped room n ≡ suc room
unfolding capped
capped-past room n h = rw (lt-leb n room h, capped) refl

-- a place that is past the room stays so
capped-on : (room n k : ℕ) → capped room (capped room n + k) ≡ capped room (n + k)
capped-on room n k = ways (order room n)
  where
    ways : (room < n) ⊎ (n ≤ room) → capped room (capped room n + k) ≡ capped room (n + k)
    ways (inr h) = ap (λ m. capped room (m + k)) (capped-in room n h)
    ways (inl h) =
        ap (λ m. capped room (m + k)) (capped-past room n h)
        ∙ capped-past room (suc room + k) (omega arith)
        ∙ sym (capped-past room (n + k) (omega arith))

capped-low : (room n : ℕ) → capped room n ≤ suc room
capped-low room n = ways (order room n)
  where
    ways : (room < n) ⊎ (n ≤ room) → capped room n ≤ suc room
    ways (inr h) = omega (arith, capped-in room n h)
    ways (inl h) = omega (arith, capped-past room n h)

capped_same : (room n : ℕ) → n ≤ suc room → capped room n ≡ n
capped_same room n h = ways (order room n)
  where
    ways : (room < n) ⊎ (n ≤ room) → capped room n ≡ n
    ways (inr k) = capped-in room n k
    ways (inl k) = capped-past room n k ∙ omega arith

-- behind a text there may be put another
pub ready :
    {before mid : List ℕ} {room at r : ℕ} {t : List ℕ} → CanPut before room at → Printed before room at t mid r → CanPut mid room r
ready {before} {mid} {room} {at} {r} {t} can p =
    (omega (arith, can, p.same), can.1, omega (arith, p.ends, capped-low room (at + length t)))

paste-on :
    (d t u : List ℕ) (at : ℕ) → at + length t ≤ length d
    → paste (paste d at t (length t)) (at + length t) u (length u) ≡ paste d at (t ++ u) (length (t ++ u))
paste-on d t u at h =
    let low : at ≤ length d = omega arith in
    let full : length t ≤ length t = omega arith in
    let m = at + length t in
    let mid = paste d at t (length t) in
    let head : take m mid ≡ take at d ++ t = take-paste d at t (length t) low full ∙ ap (λ l. take at d ++ l) (take-length t) in
    let more : m + length u ≡ at + length (t ++ u) = omega (arith, length-append t u) in
    let tail : drop (m + length u) mid ≡ drop (at + length (t ++ u)) d =
    sym (drop-drop (length u) m mid) ∙ ap (drop (length u)) (drop-paste d at t (length t) low full) ∙ drop-drop (length u) m d ∙ ap (λ n. drop n d) more in
    (λ i. head i ++ take-length u i ++ tail i)
    ∙ ap (λ l. l ++ drop (at + length (t ++ u)) d) (append_assoc (take at d) t u ∙ ap (λ l. take at d ++ l) (sym (take-length (t ++ u))))

-- one text, then another
pub then :
    {before mid after : List ℕ} {room at r s : ℕ} {t u : List ℕ} → CanPut before room at → Printed before room at t mid r
    → Printed mid room r u after s → Printed before room at (t ++ u) after s
then {before} {mid} {after} {room} {at} {r} {s} {t} {u} can p q =
    let longer = length-append t u in
    record {
      ends =
          q.ends
          ∙ ap (λ n. capped room (n + length u)) p.ends
          ∙ capped-on room (at + length t) (length u)
          ∙ ap (capped room) (omega (arith, longer));
      same = q.same ∙ p.same;
      out = λ h.
          let fits : at + length t ≤ length before = omega arith in
          let here : r ≡ at + length t = p.ends ∙ capped-in room (at + length t) (omega arith) in
          q.out (omega (arith, p.same))
          ∙ (λ i. paste (p.out fits i) (here i) u (length u))
          ∙ paste-on before t u at fits;
    }

-- no text
pub nothing : (d : List ℕ) (room at : ℕ) → CanPut d room at → Printed d room at [] d at
nothing d room at can =
    record {
      ends = sym (ap (capped room) (omega arith) ∙ capped_same room at can.2);
      same = refl;
      out = λ h. paste-zero d at [];
    }

-- past the room one text is as good as another
pub any_past :
    {d e : List ℕ} {room at r : ℕ} {t : List ℕ} (u : List ℕ) → CanPut d room at → room < at → Printed d room at t e r → Printed d room at u e r
any_past {d} {e} {room} {at} {r} {t} u can h p =
    record {
      ends = p.ends ∙ capped-past room (at + length t) (omega arith) ∙ sym (capped-past room (at + length u) (omega arith));
      same = p.same;
      out = λ k. absurd (omega arith);
    }

pub past : (d : List ℕ) (room at : ℕ) (t : List ℕ) → CanPut d room at → room < at → Printed d room at t d at
past d room at t can h = any_past t can h (nothing d room at can)

-- one byte; past the end of `out` nothing is stored
pub byte_put :
    (d e : List ℕ) (room at b r : ℕ) → e ≡ set d at b → r ≡ capped room (at + 1) → Printed d room at (b ∷ []) e r
byte_put d e room at b r is ends =
    record {
      ends = ends;
      same = ap length is ∙ length-set d at b;
      out = λ h.
          let start : at ≡ at + 0 = omega arith in
          is ∙ (λ i. set (paste-zero d at (b ∷ []) i) (start i) b) ∙ paste-suc d at (b ∷ []) 0 0 (omega arith) (omega arith);
    }

-- the same text in other words
pub reworded :
    {before after : List ℕ} {room at r : ℕ} {t u : List ℕ} → t ≡ u → Printed before room at t after r → Printed before room at u after r
reworded {before} {after} {room} {at} {r} e p = subst (λ t. Printed before room at t after r) e p

-- a part was put: what is left of the whole, put behind it, makes the whole
pub record Left (before : List ℕ) (room at : ℕ) (whole mid : List ℕ) (r : ℕ) (rest : List ℕ) : Type 0 where
  pub can : CanPut mid room r
  pub same : length mid ≡ length before
  pub so : (after : List ℕ) (s : ℕ) → Printed mid room r rest after s → Printed before room at whole after s

pub all_left : (d : List ℕ) (room at : ℕ) (whole : List ℕ) → CanPut d room at → Left d room at whole d at whole
all_left d room at whole can = record { can = can; same = refl; so = λ after s p. p }

pub less_left :
    {before mid after : List ℕ} {room at r s : ℕ} {whole t rest : List ℕ} → Left before room at whole mid r (t ++ rest)
    → Printed mid room r t after s → Left before room at whole after s rest
less_left l p =
    record { can = ready l.can p; same = p.same ∙ l.same; so = λ last e q. l.so last e (then l.can p q) }

-- the rest in other words
pub left_as :
    {before mid : List ℕ} {room at r : ℕ} {whole t u : List ℕ} → t ≡ u → Left before room at whole mid r t → Left before room at whole mid r u
left_as {before} {mid} {room} {at} {r} {whole} e l = subst (Left before room at whole mid r) e l

pub none_left :
    {before mid : List ℕ} {room at r : ℕ} {whole : List ℕ} → Left before room at whole mid r [] → Printed before room at whole mid r
none_left {before} {mid} {room} {at} {r} l = l.so mid r (nothing mid room r l.can)

-- a list from a place on: its first byte and the others, and its end
pub next_of : (w : List ℕ) (i : ℕ) → i < length w → drop i w ≡ (get_or w i 0 ∷ []) ++ drop (i + 1) w
next_of w i h = drop-cons w i 0 h ∙ ap (λ n. get_or w i 0 ∷ drop n w) (sym (add-one i))

pub end_of : (w : List ℕ) (i : ℕ) → length w ≤ i → drop i w ≡ []
end_of w i h = drop_of_length-le w h

-- ---- the same of a printer

-- what a printer put, once its place and what is behind it are known
pub prints :
    {before after : Printer} {t : List ℕ} → Ready before → after.room ≡ before.room
    → Printed before.out.now before.room before.at t after.out.now after.at → Prints before after t
prints {before} {after} {t} can same p =
    let can' = ready can p in
    record { began = can; can = (omega (arith, can'), omega (arith, can'), omega (arith, can')); same_room = same; printed = p }

pub nothing_printed : (p : Printer) → Ready p → Prints p p []
nothing_printed p can = prints can refl (nothing p.out.now p.room p.at can)

-- one text, then another
pub both :
    {a b c : Printer} {t u : List ℕ} → Prints a b t → Prints b c u → Prints a c (t ++ u)
both {a} {b} {c} {t} {u} p q =
    prints p.began (q.same_room ∙ p.same_room)
    (then p.began p.printed (subst (λ r. Printed b.out.now r b.at u c.out.now c.at) p.same_room q.printed))

pub in_words : {a b : Printer} {t u : List ℕ} → t ≡ u → Prints a b t → Prints a b u
in_words {a} {b} e p = subst (Prints a b) e p

-- past the room one text is as good as another, and none is
pub any_printed : {a b : Printer} {t : List ℕ} (u : List ℕ) → a.room < a.at → Prints a b t → Prints a b u
any_printed u h p = prints p.began p.same_room (any_past u p.began h p.printed)

pub past_printed : (p : Printer) (t : List ℕ) → Ready p → p.room < p.at → Prints p p t
past_printed p t can h = any_printed t h (nothing_printed p can)

-- a part was put: what is left of the whole, put behind it, makes the whole
pub record Rest (before : Printer) (whole : List ℕ) (mid : Printer) (rest : List ℕ) : Type 0 where
  pub can : Ready mid
  pub so : {after : Printer} → Prints mid after rest → Prints before after whole

pub all_rest : (p : Printer) (whole : List ℕ) → Ready p → Rest p whole p whole
all_rest p whole can = record { can = can; so = λ q. q }

pub less_rest :
    {before mid after : Printer} {whole t rest : List ℕ} → Rest before whole mid (t ++ rest) → Prints mid after t → Rest before whole after rest
less_rest l p = record { can = p.can; so = λ q. l.so (both p q) }

pub rest_as : {before mid : Printer} {whole t u : List ℕ} → t ≡ u → Rest before whole mid t → Rest before whole mid u
rest_as {before} {mid} {whole} e l = subst (Rest before whole mid) e l

pub none_rest : {before mid : Printer} {whole : List ℕ} → Rest before whole mid [] → Prints before mid whole
none_rest {before} {mid} l = l.so (nothing_printed mid l.can)

-- a printer that begins may put text
pub begun :
    {out : List ℕ} {room at : ℕ} (p : Printer) → CanPut out room at → (p.out.now ≡ out) × (p.room ≡ room) × (p.at ≡ at) → Ready p
begun p can fresh = (omega (arith, ap length fresh.0, can), omega (arith, can), omega (arith, can))

-- what it put and where it stands then is put from its place on
pub ended :
    {out after text : List ℕ} {room at end : ℕ} (p q : Printer) → (p.out.now ≡ out) × (p.room ≡ room) × (p.at ≡ at) → Prints p q text →
    after ≡ q.out.now → end ≡ q.at → Printed out room at text after end
ended {out} {after} {text} {room} {at} {end} p q fresh put is stands =
    subst (λ l. Printed out room at text l end) (sym is)
    (subst (Printed out room at text q.out.now) (sym stands)
    (subst (λ l. Printed l room at text q.out.now q.at) fresh.0
    (subst (λ r. Printed p.out.now r at text q.out.now q.at) fresh.1 (subst (λ n. Printed p.out.now p.room n text q.out.now q.at) fresh.2 put.printed))))
