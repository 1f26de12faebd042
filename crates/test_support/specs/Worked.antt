-- The example: four clauses over two variables, and one stream with one identity and room for two
-- literals.
use Rattle.std.specs.Prelude.{pos, negsuc, [], ◌∷◌}
use Rattle.lrup_model.specs.Clause.{Clause}
use Rattle.lrup_model.specs.Formula.{Cnf}
use Rattle.lrup_model.specs.Layout.{LayoutValue}
use Rattle.lrup_model.specs.Event.{History, vacant, live, retired, fetch, publish, retire}
use Rattle.lrup_model.specs.declared.clause_map.Published.TheVariants as publishing
use Rattle.lrup_model.specs.declared.clause_map.Retired.TheVariants as retiring

-- 1 2 0 / -1 2 0 / 1 -2 0 / -1 -2 0
abbrev pub first : Clause
first = pos 1 ∷ pos 2 ∷ []

abbrev pub second : Clause
second = negsuc 0 ∷ pos 2 ∷ []

abbrev pub third : Clause
third = pos 1 ∷ negsuc 1 ∷ []

abbrev pub fourth : Clause
fourth = negsuc 0 ∷ negsuc 1 ∷ []

abbrev pub four : Cnf
four = record { vars = 2; clauses = first ∷ second ∷ third ∷ fourth ∷ [] }

-- the unit clause that follows from the first two clauses
abbrev pub unit : Clause
unit = pos 2 ∷ []

abbrev pub one_line : LayoutValue
one_line = record { vars = 2; clauses = 4; literals = 8; streams = 1; lines = 1; room = 2 }

-- stream 1 publishes the unit clause under 5, retires it, and can then do neither again
abbrev pub calls : History
calls =
    fetch 1 5 vacant
    ∷ publish 1 5 unit publishing.Done
    ∷ fetch 1 5 (live unit)
    ∷ publish 1 5 unit publishing.Taken
    ∷ retire 1 5 retiring.Done
    ∷ retire 1 5 retiring.NotLive
    ∷ publish 1 5 unit publishing.Taken
    ∷ fetch 1 5 retired
    ∷ []
