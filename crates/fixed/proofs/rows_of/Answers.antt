-- `fixed::rows_of` meets its contract: the rows of each code, by the arm that tells it.
use mathlib.Core.Path.{refl}
use Rattle.std.proofs.Common.{rules}
use Rattle.fixed.specs.Fixed.{kinds_of}
use Rattle.fixed.proofs.FixedLaws.{rows_are, rows_none}
use Rattle.fixed.proofs.rows_of.Goals as goal

pub returns-in-2 : goal.returns-in-2
unfolding kinds_of
returns-in-2 c = rows_are 2 c.in-2.is c.requires refl

pub returns-in-3 : goal.returns-in-3
unfolding kinds_of
returns-in-3 c = rows_are 3 c.in-3.is c.requires refl

pub returns-in-5 : goal.returns-in-5
unfolding kinds_of
returns-in-5 c = rows_are 5 c.in-5.is c.requires refl

pub returns-in-7 : goal.returns-in-7
unfolding kinds_of
returns-in-7 c = rows_are 7 c.in-7.is c.requires refl

pub returns-in-11 : goal.returns-in-11
unfolding kinds_of
returns-in-11 c = rows_are 11 c.in-11.is c.requires refl

pub returns-in-12 : goal.returns-in-12
unfolding kinds_of
returns-in-12 c = rows_are 12 c.in-12.is c.requires refl

pub returns-in_default : goal.returns-in_default
returns-in_default c = search (rules, rows_none)
