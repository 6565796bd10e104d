-- No second result, and no second contents of a lent buffer, meets a contract of this crate. `Learnt` is a contract of src/lib.rt as it
-- stands: what it says of the arguments a, the result r and the parameters s as they are left. Assumes nothing.
use mathlib.Core.Path.{◌≡◌, sym, ap, ◌∙◌}
use mathlib.Core.List.{List}
use Prim.Native.Nat.{ℕ}
use contract.Lifetimes.{Lfts}
use Rattle.definition.specs.Basics.{Result, Refusal}
use Rattle.std.specs.Prelude.{Ok, Err}
use Rattle.std.specs.Prelude.{Result as Outcome}
use Rattle.facts.proofs.Results.{good_inj, bad_inj, bad≢good}
use Rattle.refusal.specs.Numbers.{told_of}
use Rattle.refusal.specs.declared.Refused.{Refused}
use Rattle.refusal.proofs.Numbers.{number-injective}
use Rattle.blocks.specs.Answers.{Told}
use Rattle.blocks.proofs.read_blocks.Reads as read-blocks
use Rattle.blocks.proofs.write_blocks.Reads as write-blocks
use Rattle.blocks.proofs.blocks_read.Reads as blocks-read
use Rattle.blocks.proofs.blocks_write.Reads as blocks-write

-- AN ANSWER IS KNOWN BY ITS NUMBER AND PLACE

pub read_inj : (r r' : Outcome ℕ Refused) → told_of r ≡ told_of r' → r ≡ r'
unfolding told_of
read_inj (Ok n) (Ok n') e = ap Ok (good_inj e)
read_inj (Ok n) (Err r) e = bad≢good (sym e)
read_inj (Err r) (Ok n) e = bad≢good e
read_inj (Err r) (Err r') e =
    let same = bad_inj e in
    let refusal = number-injective r.refusal r'.refusal (ap (λ q. q.code) same) in
    let place = ap (λ q. q.place) same in
    λ i. Err (record { refusal = refusal i; place = place i })

-- THE CONTRACTS, where s.1.0 is `out`, s.1.1.0 `place` and s.1.1.1.0 `size`

pub one-read :
    (κs : Lfts 2) (a : _) (r r' : Outcome ℕ Refused) (s s' : _) →
    read-blocks.Learnt κs a r s → read-blocks.Learnt κs a r' s' →
    (r ≡ r') × (s.1.0.now ≡ s'.1.0.now)
one-read κs a r r' s s' h h' = (read_inj r r' (h.0 ∙ sym h'.0), h.1 ∙ sym h'.1)

pub one_written :
    (κs : Lfts 2) (a : _) (r r' : Outcome ℕ Refused) (s s' : _) →
    write-blocks.Learnt κs a r s → write-blocks.Learnt κs a r' s' →
    (r ≡ r') × (s.1.0.now ≡ s'.1.0.now)
one_written κs a r r' s s' h h' = (read_inj r r' (h.0 ∙ sym h'.0), h.1 ∙ sym h'.1)

one-telling :
    {result : Result Refusal (List ℕ)} {code code' place place' size size' : ℕ} {before after after' : List ℕ} →
    Told result code place size before after → Told result code' place' size' before after' →
    (code ≡ code') × (after ≡ after') × (place ≡ place') × (size ≡ size')
one-telling h h' =
    (h.code_is ∙ sym h'.code_is, h.after_is ∙ sym h'.after_is, h.place_is ∙ sym h'.place_is, h.size_is ∙ sym h'.size_is)

pub one-read_told :
    (κs : Lfts 4) (a : _) (r r' : ℕ) (s s' : _) →
    blocks-read.Learnt κs a r s → blocks-read.Learnt κs a r' s' →
    (r ≡ r') × (s.1.0.now ≡ s'.1.0.now) × (s.1.1.0.now ≡ s'.1.1.0.now) × (s.1.1.1.0.now ≡ s'.1.1.1.0.now)
one-read_told κs a r r' s s' = one-telling

pub one-written-told :
    (κs : Lfts 4) (a : _) (r r' : ℕ) (s s' : _) →
    blocks-write.Learnt κs a r s → blocks-write.Learnt κs a r' s' →
    (r ≡ r') × (s.1.0.now ≡ s'.1.0.now) × (s.1.1.0.now ≡ s'.1.1.0.now) × (s.1.1.1.0.now ≡ s'.1.1.1.0.now)
one-written-told κs a r r' s s' = one-telling
