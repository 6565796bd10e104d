-- No second result, and no second contents of a lent buffer, meets a contract of this crate. `Learnt` is a contract of src/lib.rt as it
-- stands: what it says of the arguments a, the result r and the parameters s as they are left. Assumes nothing.
use mathlib.Core.Path.{◌≡◌, sym, ap, ◌∙◌}
use mathlib.Core.List.{List}
use mathlib.Core.Bool.{Bool}
use Prim.Native.Nat.{ℕ}
use contract.Lifetimes.{Lfts}
use Rattle.definition.specs.Basics.{Result, Refusal}
use Rattle.std.specs.Prelude.{Ok, Err}
use Rattle.std.specs.Prelude.{Result as Outcome}
use Rattle.facts.proofs.Results.{good_inj, bad_inj, bad≢good}
use Rattle.refusal.specs.declared.Refusal as by_name
use Rattle.refusal.proofs.Numbers.{number-injective}
use Rattle.texts.specs.Answers.{answer, Told}
use Rattle.texts.proofs.is_text.Reads as is_text_lem
use Rattle.texts.proofs.read_text.Reads as read_text_lem
use Rattle.texts.proofs.write_text.Reads as write-text
use Rattle.texts.proofs.texts_read.Reads as texts-read
use Rattle.texts.proofs.texts_write.Reads as texts-write

-- AN ANSWER IS KNOWN BY ITS NUMBER

pub read_inj : (r r' : Outcome ℕ by_name.Refusal) → answer r ≡ answer r' → r ≡ r'
unfolding answer
read_inj (Ok n) (Ok n') e = ap Ok (good_inj e)
read_inj (Ok n) (Err r) e = bad≢good (sym e)
read_inj (Err r) (Ok n) e = bad≢good e
read_inj (Err r) (Err r') e = ap Err (number-injective r r' (ap (λ q. q.code) (bad_inj e)))

-- THE CONTRACTS, where s.1.0 is the output and s.1.1.0 `size`

pub one-judged : (κs : Lfts 1) (a : _) (r r' : Bool) (s s' : _) → is_text_lem.Learnt κs a r s → is_text_lem.Learnt κs a r' s' → r ≡ r'
one-judged κs a r r' s s' h h' = h ∙ sym h'

pub one-read :
    (κs : Lfts 2) (a : _) (r r' : Outcome ℕ by_name.Refusal) (s s' : _) →
    read_text_lem.Learnt κs a r s → read_text_lem.Learnt κs a r' s' →
    (r ≡ r') × (s.1.0.now ≡ s'.1.0.now)
one-read κs a r r' s s' h h' = (read_inj r r' (h.0 ∙ sym h'.0), h.1 ∙ sym h'.1)

pub one_written :
    (κs : Lfts 2) (a : _) (r r' : Outcome ℕ by_name.Refusal) (s s' : _) →
    write-text.Learnt κs a r s → write-text.Learnt κs a r' s' →
    (r ≡ r') × (s.1.0.now ≡ s'.1.0.now)
one_written κs a r r' s s' h h' = (read_inj r r' (h.0 ∙ sym h'.0), h.1 ∙ sym h'.1)

one-telling :
    {result : Result Refusal (List ℕ)} {code code' size size' : ℕ} {before after after' : List ℕ} →
    Told result code size before after → Told result code' size' before after' →
    (code ≡ code') × (after ≡ after') × (size ≡ size')
one-telling h h' = (h.code_is ∙ sym h'.code_is, h.after_is ∙ sym h'.after_is, h.size_is ∙ sym h'.size_is)

pub one-read_told :
    (κs : Lfts 3) (a : _) (r r' : ℕ) (s s' : _) →
    texts-read.Learnt κs a r s → texts-read.Learnt κs a r' s' →
    (r ≡ r') × (s.1.0.now ≡ s'.1.0.now) × (s.1.1.0.now ≡ s'.1.1.0.now)
one-read_told κs a r r' s s' = one-telling

pub one-written-told :
    (κs : Lfts 3) (a : _) (r r' : ℕ) (s s' : _) →
    texts-write.Learnt κs a r s → texts-write.Learnt κs a r' s' →
    (r ≡ r') × (s.1.0.now ≡ s'.1.0.now) × (s.1.1.0.now ≡ s'.1.1.0.now)
one-written-told κs a r r' s s' = one-telling
