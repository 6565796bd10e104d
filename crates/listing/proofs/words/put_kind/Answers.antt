-- `listing::words::put_kind` meets its contract: each word is the table's. Assumes nothing.
use mathlib.Core.Path.{sym, ap}
use Rattle.definition.specs.Basics.{lookup}
use Rattle.definition.specs.Ascii.{ascii}
use Rattle.listing.specs.Listing.{or_decimal, kinds}
use Rattle.listing.proofs.Names.{no_kind}
use Rattle.printing.proofs.Printing.{in_words}
use Rattle.listing.proofs.words.put_kind.Goals as goal

pub returns-in-1-clause-text : goal.returns-in-1-clause-text
unfolding lookup ascii or_decimal kinds
returns-in-1-clause-text c = in_words (ap (λ n. or_decimal n (lookup n kinds)) (sym c.in-1.is)) c.put_word.ensures.text

pub returns-in-3-clause-text : goal.returns-in-3-clause-text
unfolding lookup ascii or_decimal kinds
returns-in-3-clause-text c = in_words (ap (λ n. or_decimal n (lookup n kinds)) (sym c.in-3.is)) c.put_word-in-3.ensures.text

pub returns-in-4-clause-text : goal.returns-in-4-clause-text
unfolding lookup ascii or_decimal kinds
returns-in-4-clause-text c = in_words (ap (λ n. or_decimal n (lookup n kinds)) (sym c.in-4.is)) c.put_word-in-4.ensures.text

pub returns-in-5-clause-text : goal.returns-in-5-clause-text
unfolding lookup ascii or_decimal kinds
returns-in-5-clause-text c = in_words (ap (λ n. or_decimal n (lookup n kinds)) (sym c.in-5.is)) c.put_word-in-5.ensures.text

pub returns-in-6-clause-text : goal.returns-in-6-clause-text
unfolding lookup ascii or_decimal kinds
returns-in-6-clause-text c = in_words (ap (λ n. or_decimal n (lookup n kinds)) (sym c.in-6.is)) c.put_word-in-6.ensures.text

pub returns-in-7-clause-text : goal.returns-in-7-clause-text
unfolding lookup ascii or_decimal kinds
returns-in-7-clause-text c = in_words (ap (λ n. or_decimal n (lookup n kinds)) (sym c.in-7.is)) c.put_word-in-7.ensures.text

pub returns-in-8-clause-text : goal.returns-in-8-clause-text
unfolding lookup ascii or_decimal kinds
returns-in-8-clause-text c = in_words (ap (λ n. or_decimal n (lookup n kinds)) (sym c.in-8.is)) c.put_word-in-8.ensures.text

pub returns-in-9-clause-text : goal.returns-in-9-clause-text
unfolding lookup ascii or_decimal kinds
returns-in-9-clause-text c = in_words (ap (λ n. or_decimal n (lookup n kinds)) (sym c.in-9.is)) c.put_word-in-9.ensures.text

pub returns-in-10-clause-text : goal.returns-in-10-clause-text
unfolding lookup ascii or_decimal kinds
returns-in-10-clause-text c = in_words (ap (λ n. or_decimal n (lookup n kinds)) (sym c.in-10.is)) c.put_word-in-10.ensures.text

pub returns-in-11-clause-text : goal.returns-in-11-clause-text
unfolding lookup ascii or_decimal kinds
returns-in-11-clause-text c = in_words (ap (λ n. or_decimal n (lookup n kinds)) (sym c.in-11.is)) c.put_word-in-11.ensures.text

pub returns-in-12-clause-text : goal.returns-in-12-clause-text
unfolding lookup ascii or_decimal kinds
returns-in-12-clause-text c = in_words (ap (λ n. or_decimal n (lookup n kinds)) (sym c.in-12.is)) c.put_word-in-12.ensures.text

pub returns-in-15-clause-text : goal.returns-in-15-clause-text
unfolding lookup ascii or_decimal kinds
returns-in-15-clause-text c = in_words (ap (λ n. or_decimal n (lookup n kinds)) (sym c.in-15.is)) c.put_word-in-15.ensures.text

pub returns-in-16-clause-text : goal.returns-in-16-clause-text
unfolding lookup ascii or_decimal kinds
returns-in-16-clause-text c = in_words (ap (λ n. or_decimal n (lookup n kinds)) (sym c.in-16.is)) c.put_word-in-16.ensures.text

pub returns-in-17-clause-text : goal.returns-in-17-clause-text
unfolding lookup ascii or_decimal kinds
returns-in-17-clause-text c = in_words (ap (λ n. or_decimal n (lookup n kinds)) (sym c.in-17.is)) c.put_word-in-17.ensures.text

pub returns-in-18-clause-text : goal.returns-in-18-clause-text
unfolding lookup ascii or_decimal kinds
returns-in-18-clause-text c = in_words (ap (λ n. or_decimal n (lookup n kinds)) (sym c.in-18.is)) c.put_word-in-18.ensures.text

pub returns-in-19-clause-text : goal.returns-in-19-clause-text
unfolding lookup ascii or_decimal kinds
returns-in-19-clause-text c = in_words (ap (λ n. or_decimal n (lookup n kinds)) (sym c.in-19.is)) c.put_word-in-19.ensures.text

pub returns-in-20-clause-text : goal.returns-in-20-clause-text
unfolding lookup ascii or_decimal kinds
returns-in-20-clause-text c = in_words (ap (λ n. or_decimal n (lookup n kinds)) (sym c.in-20.is)) c.put_word-in-20.ensures.text

pub returns-in_default-clause-text : goal.returns-in_default-clause-text
unfolding kinds
returns-in_default-clause-text c = in_words (no_kind c.args.tag c.in_default.in_default-own.rest) c.put_decimal.ensures.text
