-- No second result meets the contract of `name_at`, `after_reference`, `tag_at`, `kind_byte`, `reference_count`, `is_worked` or
-- `after_worked`. `Asked` and `Learnt` are the contract in src/lib.rt as it stands: what it requires of the arguments a, and what it says
-- of them, of the result r and of the parameters s as they are left. Assumes nothing.
use mathlib.Core.Bool.{Bool}
use mathlib.Core.List.{List}
use mathlib.Core.Path.{◌≡◌, sym, ap, ◌∙◌}
use Prim.Native.Nat.{ℕ, ◌-◌}
use native.Mathlib.Omega.{arith}
use lib.ListN.{length, drop, length-drop}
use lib.Seq.{length-take-le}
use contract.Lifetimes.{Lfts}
use Rattle.definition.specs.Job.{define}
use Rattle.job.specs.declared.Stretch.{Stretch}
use Rattle.job.specs.Stored.{Spans}
use Rattle.job.proofs.name_at.Reads as name_at
use Rattle.job.proofs.after_reference.Reads as after-reference
use Rattle.job.proofs.tag_at.Reads as tag_at
use Rattle.job.proofs.kind_byte.Reads as kind_byte_lem
use Rattle.job.proofs.reference_count.Reads as reference-count
use Rattle.job.proofs.is_worked.Reads as is-worked
use Rattle.job.proofs.after_worked.Reads as after-worked

span_length : (s : List ℕ) (r : Stretch) (l : List ℕ) → Spans s r l → r.end - r.start ≡ length l
span_length s r l h =
    sym (length-take-le (r.end - r.start) (drop r.start s) (rw (length-drop r.start s) (omega (arith, h.rising, h.within))))
    ∙ ap length h.are

-- bytes that end at a place start at one place
one-stretch :
    (s l : List ℕ) (next : ℕ) (r r' : Stretch) →
    Spans s r l × (r.end ≡ next) → Spans s r' l × (r'.end ≡ next) →
    r ≡ r'
one-stretch s l next r r' h h' =
    let n = span_length s r l h.0 in
    let n' = span_length s r' l h'.0 in
    let start : r.start ≡ r'.start = omega (arith, n, n', h.0.rising, h'.0.rising, h.1, h'.1) in
    λ i. record { start = start i; end = (h.1 ∙ sym h'.1) i }

pub one_name :
    (κs : Lfts 1) (a : _) (r r' : Stretch) (s s' : _) →
    name_at.Asked κs a → name_at.Learnt κs a r s → name_at.Learnt κs a r' s' →
    r ≡ r'
one_name κs a r r' s s' (l, next, f) h h' = one-stretch _ l next r r' (h l next f) (h' l next f)

pub one-behind :
    (κs : Lfts 1) (a : _) (r r' : ℕ) (s s' : _) →
    after-reference.Asked κs a → after-reference.Learnt κs a r s → after-reference.Learnt κs a r' s' →
    r ≡ r'
one-behind κs a r r' s s' (kind, (value, next, f)) h h' = h kind value next f ∙ sym (h' kind value next f)

pub one_tag :
    (κs : Lfts 1) (a : _) (r r' : ℕ) (s s' : _) →
    tag_at.Asked κs a → tag_at.Learnt κs a r s → tag_at.Learnt κs a r' s' →
    r ≡ r'
one_tag κs a r r' s s' (e, next, f) h h' = h e next f ∙ sym (h' e next f)

pub one_kind-byte :
    (κs : Lfts 1) (a : _) (r r' : ℕ) (s s' : _) →
    kind_byte_lem.Asked κs a → kind_byte_lem.Learnt κs a r s → kind_byte_lem.Learnt κs a r' s' →
    r ≡ r'
one_kind-byte κs a r r' s s' (e, next, f) h h' = h e next f ∙ sym (h' e next f)

pub one-reference-count :
    (κs : Lfts 1) (a : _) (r r' : ℕ) (s s' : _) →
    reference-count.Asked κs a → reference-count.Learnt κs a r s → reference-count.Learnt κs a r' s' →
    r ≡ r'
one-reference-count κs a r r' s s' (e, next, f) h h' = h e next f ∙ sym (h' e next f)

pub one-is_worked :
    (κs : Lfts 1) (a : _) (r r' : Bool) (s s' : _) →
    is-worked.Learnt κs a r s → is-worked.Learnt κs a r' s' →
    r ≡ r'
one-is_worked κs a r r' s s' h h' = h ∙ sym h'

pub one-behind-worked :
    (κs : Lfts 1) (a : _) (r r' : ℕ) (s s' : _) →
    after-worked.Asked κs a → after-worked.Learnt κs a r s → after-worked.Learnt κs a r' s' →
    r ≡ r'
one-behind-worked κs a r r' s s' ((e, next, f), worked) h h' = h (define e) next f ∙ sym (h' (define e) next f)
