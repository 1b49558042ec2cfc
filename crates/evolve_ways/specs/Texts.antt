-- A way as a text. Names are written as in JSON pointers (RFC 6901, in a fragment without percent signs), and `~` with a letter behind it
-- stands in no name: so marks are told from names.
use Rattle.std.specs.Prelude.{ℕ, List, [], ◌∷◌, ◌++◌, codes}
use Rattle.std.specs.Fmt.{decimal}
use Rattle.schema_defs.specs.Location.{escaped}
use Rattle.evolve_ways.specs.Ways.{Mark, field_mark, variant_mark, item_mark, place_mark, name_mark, value_mark, rest_mark}

abbrev pub mark_text : Mark → List ℕ
mark_text (field_mark n) = codes "/" ++ escaped n
mark_text (variant_mark n) = codes "/~variant/" ++ escaped n
mark_text item_mark = codes "/~items"
mark_text (place_mark n) = codes "/~place/" ++ decimal n
mark_text name_mark = codes "/~names"
mark_text value_mark = codes "/~values"
mark_text rest_mark = codes "/~rest"

abbrev pub marks_text : List Mark → List ℕ
marks_text [] = []
marks_text (m ∷ ms) = mark_text m ++ marks_text ms

abbrev pub way_text : List Mark → List ℕ
way_text ms = codes "#" ++ marks_text ms
