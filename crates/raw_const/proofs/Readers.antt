-- How many bytes the definition's readers take: all of them, or nothing is read. Assumes nothing.
use mathlib.Core.Path.{◌≡◌, refl, ap, ◌∙◌}
use mathlib.Core.List.{List, [], ◌∷◌, ◌++◌}
use mathlib.Core.Option.{Option, none, some}
use Prim.Native.Nat.{ℕ, zero, suc, ◌+◌, ◌*◌, ◌-◌, ◌<◌, ◌≤◌}
use native.Mathlib.Numerals.{add-one}
use native.Mathlib.Decide.{dec_lt}
use native.Mathlib.Omega.{arith}
use lib.ListN.{length, get_or, drop, length-drop, drop_of_length-le}
use lib.Seq.{drop-drop, drop-cons}
use Rattle.definition.specs.Basics.{lookup}
use Rattle.definition.specs.Bytes.{Parser, return, ◌>>=◌, one, two, many}
use Rattle.definition.specs.Shapes.{Kind, constant, bootstrap, Field, to, shapes, Entry, with_kids, with_literal, with_byte, read_fields, read_entry}
use Rattle.definition.specs.Jvms.{index, of_tag, cp_info}
use Rattle.std.specs.Option.{unwrap_or}
use Rattle.std.specs.Prelude.{None, Some}
use Rattle.raw_const.specs.Entries.{shape_fields, length_of, short_read, number_read, ReadAt}
use Rattle.raw_const.specs.declared.Shape.{Shape}
use Rattle.raw_const.specs.declared.Shape.TheVariants.{Text, Bits, One, Two, Dynamic, KindOne}

-- a reader found a value of P and took n bytes
pub record Found {A : Type 0} (P : A → Type 0) (p : Parser A) (bytes : List ℕ) (n : ℕ) : Type 0 where
  pub value : A
  pub read : p bytes ≡ some (value, drop n bytes)
  pub holds : P value

-- a reader takes n bytes, and finds nothing where there are fewer
pub record Takes {A : Type 0} (P : A → Type 0) (p : Parser A) (bytes : List ℕ) (n : ℕ) : Type 0 where
  pub found : n ≤ length bytes → Found P p bytes n
  pub cut : length bytes < n → p bytes ≡ none

takes_return : {A : Type 0} (P : A → Type 0) (a : A) (bytes : List ℕ) → P a → Takes P (return a) bytes 0
takes_return P a bytes h = record { found = λ _. record { value = a; read = refl; holds = h }; cut = λ few. absurd (omega arith) }

-- one reader, then another that may go by what the first found
module _ {A B : Type 0} (Q : B → Type 0) (p : Parser A) (f : A → Parser B) (bytes : List ℕ) (n m : ℕ) where
  takes_then :
      {P : A → Type 0} → Takes P p bytes n → ((a : A) → p bytes ≡ some (a, drop n bytes) → Takes Q (f a) (drop n bytes) m) →
      Takes Q (p >>= f) bytes (n + m)
  takes_then first second = record {
    found = λ enough.
        let a = first.found (omega arith) in
        let rest : m ≤ length (drop n bytes) = simp length-drop (omega arith) in
        let b = (second a.value a.read).found rest in
        record { value = b.value; read = rw a.read (b.read ∙ ap (λ l. some (b.value, l)) (drop-drop m n bytes)); holds = b.holds };
    cut = λ few. ways few (dec_lt (length bytes) n);
  }
    where
      ways : length bytes < n + m → Dec (length bytes < n) → (p >>= f) bytes ≡ none
      ways few (yes h) = rw (first.cut h)
      ways few (no h) =
          let a = first.found (omega arith) in
          let rest : length (drop n bytes) < m = simp length-drop (omega arith) in
          rw a.read ((second a.value a.read).cut rest)

takes_as : {A : Type 0} {P : A → Type 0} {p : Parser A} {bytes : List ℕ} {n m : ℕ} → m ≡ n → Takes P p bytes n → Takes P p bytes m
takes_as e t = rw e t

abbrev Any : {A : Type 0} → A → Type 0
Any a = Unit {0}

takes_one : (bytes : List ℕ) → Takes Any one bytes 1
unfolding one
takes_one [] = record { found = λ enough. absurd (omega arith); cut = λ few. refl }
takes_one (b ∷ bytes) = record { found = λ enough. record { value = b; read = refl; holds = tt }; cut = λ few. absurd (omega arith) }

pub takes_two : (bytes : List ℕ) → Takes Any two bytes 2
unfolding two
takes_two bytes =
    takes_then Any one _ bytes 1 1 (takes_one bytes)
    (λ a _. takes_then Any one _ (drop 1 bytes) 1 0 (takes_one (drop 1 bytes)) (λ b _. takes_return Any _ _ tt))

takes_many : (k : ℕ) (bytes : List ℕ) → Takes Any (many k one) bytes k
unfolding many
takes_many zero bytes = takes_return Any [] bytes tt
takes_many (suc k) bytes =
    takes_as (omega arith)
    (takes_then Any one _ bytes 1 (k + 0) (takes_one bytes)
    (λ a _. takes_then Any (many k one) _ (drop 1 bytes) k 0 (takes_many k (drop 1 bytes)) (λ s _. takes_return Any _ _ tt)))

abbrev Tagged : ℕ → Entry (List ℕ) ℕ → Type 0
Tagged tag e = e.tag ≡ tag

-- the fields of an entry, one after the other
module _ (tag : ℕ) where
  takes_end : (e : Entry (List ℕ) ℕ) (bytes : List ℕ) → Tagged tag e → Takes (Tagged tag) (read_fields index [] e) bytes 0
  unfolding read_fields
  takes_end e bytes h = takes_return (Tagged tag) e bytes h

  takes_literal :
      (k : ℕ) (e : Entry (List ℕ) ℕ) (bytes : List ℕ) → Tagged tag e →
      Takes (Tagged tag) (many k one >>= λ s. read_fields index [] (with_literal s e)) bytes (k + 0)
  unfolding with_literal
  takes_literal k e bytes h =
      takes_then (Tagged tag) (many k one) _ bytes k 0 (takes_many k bytes) (λ s _. takes_end (with_literal s e) (drop k bytes) h)

  takes_index :
      (kind : Kind) (fields : List Field) (e : Entry (List ℕ) ℕ) (bytes : List ℕ) (n : ℕ) →
      ((kids : List ℕ) → Takes (Tagged tag) (read_fields index fields (with_kids kids e)) (drop 2 bytes) n) →
      Takes (Tagged tag) (read_fields index (to kind ∷ fields) e) bytes (2 + n)
  unfolding read_fields index
  takes_index kind fields e bytes n rest =
      takes_then (Tagged tag) two _ bytes 2 n (takes_two bytes) (λ r _. rest (e.kids ++ r ∷ []))

  takes_last : (kind : Kind) (e : Entry (List ℕ) ℕ) (bytes : List ℕ) → Tagged tag e → Takes (Tagged tag) (read_fields index (to kind ∷ []) e) bytes 2
  unfolding with_kids
  takes_last kind e bytes h = takes_index kind [] e bytes 0 (λ kids. takes_end (with_kids kids e) (drop 2 bytes) h)

  takes_pair :
      (kind : Kind) (e : Entry (List ℕ) ℕ) (bytes : List ℕ) → Tagged tag e →
      Takes (Tagged tag) (read_fields index (to kind ∷ to constant ∷ []) e) bytes 4
  unfolding with_kids
  takes_pair kind e bytes h =
      takes_index kind (to constant ∷ []) e bytes 2 (λ kids. takes_last constant (with_kids kids e) (drop 2 bytes) h)

-- an entry that has none of its fields yet
abbrev bare : ℕ → Entry (List ℕ) ℕ
bare tag = record { tag = tag; literal = []; byte = 0; kids = [] }

-- what stands behind a known tag
shape_takes :
    (s : Shape) (tag : ℕ) (bytes : List ℕ) →
    Takes (Tagged tag) (of_tag tag (some (shape_fields s))) bytes (length_of s (number_read (two bytes)) - 1)
unfolding of_tag read_entry read_fields with_byte
shape_takes Text tag bytes =
    takes_as (omega arith)
    (takes_then (Tagged tag) two _ bytes 2 (number_read (two bytes) + 0) (takes_two bytes)
    (λ size e. rw (ap number_read e) (takes_literal tag size (bare tag) (drop 2 bytes) refl)))
shape_takes (Bits size) tag bytes = takes_as (omega arith) (takes_literal tag size (bare tag) bytes refl)
shape_takes One tag bytes = takes_last tag constant (bare tag) bytes refl
shape_takes Two tag bytes = takes_pair tag constant (bare tag) bytes refl
shape_takes Dynamic tag bytes = takes_pair tag bootstrap (bare tag) bytes refl
shape_takes KindOne tag bytes =
    takes_then (Tagged tag) one _ bytes 1 2 (takes_one bytes) (λ kind _. takes_last tag constant (with_byte kind (bare tag)) (drop 1 bytes) refl)

-- the number of two bytes at a place, none where they are cut off
pub no_short : (pool : List ℕ) (at : ℕ) → length pool - at < 2 → None ≡ short_read (two (drop at pool))
no_short pool at few =
    let cut : length (drop at pool) < 2 = simp length-drop few in
    rw ((takes_two (drop at pool)).cut cut)

pub a_short : (pool : List ℕ) (at : ℕ) → at + 2 ≤ length pool → Some (256 * get_or pool at 0 + get_or pool (at + 1) 0) ≡ short_read (two (drop at pool))
unfolding two one
a_short pool at enough =
    let here : at < length pool = omega arith in
    let next : suc at < length pool = omega arith in
    rw (drop-cons pool at 0 here, drop-cons pool (suc at) 0 next, add-one at)

pub number_found : (o : Option (ℕ × List ℕ)) → unwrap_or (short_read o) 0 ≡ number_read o
number_found none = refl
number_found (some r) = refl

read_none : (pool : List ℕ) (at : ℕ) → cp_info (drop at pool) ≡ none → ReadAt pool at None
read_none pool at e = record { answer = rw e; rest = rw e }

-- nothing stands behind the pool
pub read_behind : (pool : List ℕ) (at : ℕ) → length pool ≤ at → ReadAt pool at None
unfolding cp_info one
read_behind pool at h = read_none pool at (rw (drop_of_length-le pool h))

-- nor is there an entry with a tag that isn't there
pub read_unknown : (pool : List ℕ) (at : ℕ) → at < length pool → none ≡ lookup (get_or pool at 0) shapes → ReadAt pool at None
unfolding cp_info one of_tag
read_unknown pool at inside known = read_none pool at (rw (drop-cons pool at 0 inside, ← known))

-- the tag at a place has the shape s, and such an entry takes so many bytes, if they are there
pub record Sized (s : Shape) (pool : List ℕ) (at size : ℕ) : Type 0 where
  pub inside : at < length pool
  pub known : some (shape_fields s) ≡ lookup (get_or pool at 0) shapes
  pub sized : size ≡ length_of s (number_read (two (drop (at + 1) pool)))

any_size : (s : Shape) (n : ℕ) → 0 < length_of s n
any_size Text n = omega arith
any_size (Bits size) n = omega arith
any_size One n = omega arith
any_size Two n = omega arith
any_size Dynamic n = omega arith
any_size KindOne n = omega arith

module _ {s : Shape} {pool : List ℕ} {at size : ℕ} (h : Sized s pool at size) where
  behind : cp_info (drop at pool) ≡ of_tag (get_or pool at 0) (some (shape_fields s)) (drop (at + 1) pool)
  unfolding cp_info one
  behind = rw (drop-cons pool at 0 h.inside, h.known, add-one at)

  any : 0 < size
  any = rw h.sized (any_size s (number_read (two (drop (at + 1) pool))))

  takes : Takes (Tagged (get_or pool at 0)) (of_tag (get_or pool at 0) (some (shape_fields s))) (drop (at + 1) pool) (size - 1)
  takes = rw h.sized (shape_takes s (get_or pool at 0) (drop (at + 1) pool))

  pub read_cut : length pool - at < size → ReadAt pool at None
  read_cut few =
      let more : 0 < size = any in
      let cut : length (drop (at + 1) pool) < size - 1 = simp length-drop (omega arith) in
      read_none pool at (rw behind (takes.cut cut))

  pub read_whole : size ≤ length pool - at → ReadAt pool at (Some (record { tag = get_or pool at 0; next = at + size }))
  read_whole enough =
      let more : 0 < size = any in
      let all : size - 1 ≤ length (drop (at + 1) pool) = simp length-drop (omega arith) in
      let f = takes.found all in
      let next : at + 1 + (size - 1) ≡ at + size = omega arith in
      let read : cp_info (drop at pool) ≡ some (f.value, drop (at + size) pool) = rw (behind, f.read, drop-drop, next) in
      let back : at + size ≡ length pool - length (drop (at + size) pool) = simp length-drop (omega arith) in
      record { answer = rw (read, f.holds, ← back); rest = rw (read, f.holds) }
