-- `listing::words::put_between` meets its contract: each word is the table's. Assumes nothing.
use mathlib.Core.Path.{sym, ap}
use Rattle.definition.specs.Basics.{lookup}
use Rattle.definition.specs.Ascii.{ascii}
use Rattle.listing.specs.Views.{or_none, betweens, between}
use Rattle.listing.proofs.Names.{nothing_between}
use Rattle.printing.proofs.Printing.{nothing_printed, in_words}
use Rattle.listing.proofs.words.put_between.Goals as goal

pub returns-in-9-clause-text : goal.returns-in-9-clause-text
unfolding lookup ascii or_none betweens between
returns-in-9-clause-text c = in_words (ap between (sym c.in-9.is)) c.put_word.ensures.text

pub returns-in-10-clause-text : goal.returns-in-10-clause-text
unfolding lookup ascii or_none betweens between
returns-in-10-clause-text c = in_words (ap between (sym c.in-10.is)) c.put_word-in-10.ensures.text

pub returns-in-11-clause-text : goal.returns-in-11-clause-text
unfolding lookup ascii or_none betweens between
returns-in-11-clause-text c = in_words (ap between (sym c.in-11.is)) c.put_word-in-11.ensures.text

pub returns-in-12-clause-text : goal.returns-in-12-clause-text
unfolding lookup ascii or_none betweens between
returns-in-12-clause-text c = in_words (ap between (sym c.in-12.is)) c.put_word-in-12.ensures.text

pub returns-in-17-clause-text : goal.returns-in-17-clause-text
unfolding lookup ascii or_none betweens between
returns-in-17-clause-text c = in_words (ap between (sym c.in-17.is)) c.put_word-in-17.ensures.text

pub returns-in-18-clause-text : goal.returns-in-18-clause-text
unfolding lookup ascii or_none betweens between
returns-in-18-clause-text c = in_words (ap between (sym c.in-18.is)) c.put_word-in-18.ensures.text

pub returns-in_default-clause-text : goal.returns-in_default-clause-text
unfolding betweens
returns-in_default-clause-text c = in_words (nothing_between c.args.tag c.in_default.in_default-own.rest) (nothing_printed c.args.printer.now c.requires)
