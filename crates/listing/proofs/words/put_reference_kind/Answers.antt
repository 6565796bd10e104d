-- `listing::words::put_reference_kind` meets its contract: each word is the table's. Assumes nothing.
use mathlib.Core.Path.{sym, ap}
use Rattle.definition.specs.Basics.{lookup}
use Rattle.definition.specs.Ascii.{ascii}
use Rattle.listing.specs.Listing.{or_decimal, reference_kinds, reference_kind}
use Rattle.listing.proofs.Names.{no_reference_kind}
use Rattle.printing.proofs.Printing.{in_words}
use Rattle.listing.proofs.words.put_reference_kind.Goals as goal

pub returns-in-1-clause-text : goal.returns-in-1-clause-text
unfolding lookup ascii or_decimal reference_kinds reference_kind
returns-in-1-clause-text c = in_words (ap reference_kind (sym c.in-1.is)) c.put_word.ensures.text

pub returns-in-2-clause-text : goal.returns-in-2-clause-text
unfolding lookup ascii or_decimal reference_kinds reference_kind
returns-in-2-clause-text c = in_words (ap reference_kind (sym c.in-2.is)) c.put_word-in-2.ensures.text

pub returns-in-3-clause-text : goal.returns-in-3-clause-text
unfolding lookup ascii or_decimal reference_kinds reference_kind
returns-in-3-clause-text c = in_words (ap reference_kind (sym c.in-3.is)) c.put_word-in-3.ensures.text

pub returns-in-4-clause-text : goal.returns-in-4-clause-text
unfolding lookup ascii or_decimal reference_kinds reference_kind
returns-in-4-clause-text c = in_words (ap reference_kind (sym c.in-4.is)) c.put_word-in-4.ensures.text

pub returns-in-5-clause-text : goal.returns-in-5-clause-text
unfolding lookup ascii or_decimal reference_kinds reference_kind
returns-in-5-clause-text c = in_words (ap reference_kind (sym c.in-5.is)) c.put_word-in-5.ensures.text

pub returns-in-6-clause-text : goal.returns-in-6-clause-text
unfolding lookup ascii or_decimal reference_kinds reference_kind
returns-in-6-clause-text c = in_words (ap reference_kind (sym c.in-6.is)) c.put_word-in-6.ensures.text

pub returns-in-7-clause-text : goal.returns-in-7-clause-text
unfolding lookup ascii or_decimal reference_kinds reference_kind
returns-in-7-clause-text c = in_words (ap reference_kind (sym c.in-7.is)) c.put_word-in-7.ensures.text

pub returns-in-8-clause-text : goal.returns-in-8-clause-text
unfolding lookup ascii or_decimal reference_kinds reference_kind
returns-in-8-clause-text c = in_words (ap reference_kind (sym c.in-8.is)) c.put_word-in-8.ensures.text

pub returns-in-9-clause-text : goal.returns-in-9-clause-text
unfolding lookup ascii or_decimal reference_kinds reference_kind
returns-in-9-clause-text c = in_words (ap reference_kind (sym c.in-9.is)) c.put_word-in-9.ensures.text

pub returns-in_default-clause-text : goal.returns-in_default-clause-text
unfolding reference_kinds
returns-in_default-clause-text c = in_words (no_reference_kind c.args.n c.in_default.in_default-own.rest) c.put_decimal.ensures.text
