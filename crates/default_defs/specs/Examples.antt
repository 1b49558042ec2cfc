-- Small tables with stated defaults, and what defaults come to.
use Rattle.std.specs.Prelude.{◌≡◌, ℕ, List, [], ◌∷◌, false, codes}
use Rattle.json_value.specs.Value.{Value, null, text, number}
use Rattle.schema_defs.specs.Build.{◌≔◌, num, str, obj, arr, sample}
use Rattle.model_defs.specs.Model.{untagged}
use Rattle.entry_defs.specs.Entry.{i64, definition, stated, required, Entry, integer_entry, option_entry, vec_entry, reference, item, enum_shape, newtype_contents, variants}
use Rattle.entry_defs.specs.Table.{Table}
use Rattle.entry_defs.specs.Examples.{a, b, c, field, variant, open_struct, alone, defines}
use Rattle.default_defs.specs.Found.{refused, ended, endless}
use Rattle.default_defs.specs.Supplied.{supplied}

abbrev pub whole_entry : Entry
whole_entry = integer_entry i64

abbrev pub to : List ℕ → Entry
to n = reference (definition n)

abbrev pub nothing_given : Value
nothing_given = obj []

-- A struct whose field `a` states as its default an object in which `a` is left out again.
abbrev pub round : Table
round = defines a (codes "A") (open_struct (field a (to a) (stated nothing_given) ∷ []))

-- two that need one another
abbrev pub in_turn : Table
in_turn = record {
  targets =
      record { target = definition a; led_to = record { name = codes "A"; shape = open_struct (field b (to b) (stated nothing_given) ∷ []) } }
      ∷ record { target = definition b; led_to = record { name = codes "B"; shape = open_struct (field a (to a) (stated nothing_given) ∷ []) } } ∷ [];
  trees = [];
}

-- the default of `a` leaves out `b`, whose default leaves out nothing
abbrev pub nested : Entry
nested = item (codes "R") (open_struct (field a (item (codes "A") (open_struct (field b whole_entry (stated (num 1)) ∷ []))) (stated nothing_given) ∷ []))

-- the default of `b` isn't read by its entry
abbrev pub unread_inside : Entry
unread_inside = item (codes "R") (open_struct (field a (item (codes "A") (open_struct (field b whole_entry (stated (str "x")) ∷ []))) (stated nothing_given) ∷ []))

-- an untagged enum, whose first variant takes the value and comes round to itself
abbrev pub either : Table
either = record {
  targets = record {
    target = definition a;
    led_to = record {
      name = codes "A";
      shape = enum_shape false untagged (variants (
          variant b (newtype_contents (item (codes "B") (open_struct (field a (to a) (stated nothing_given) ∷ []))))
          ∷ variant c (newtype_contents (item (codes "C") (open_struct []))) ∷ []));
    };
  } ∷ [];
  trees = [];
}

-- its first variant comes round before it refuses what lacks `b`
abbrev pub forgets : Table
forgets = record {
  targets = record {
    target = definition a;
    led_to = record {
      name = codes "A";
      shape = enum_shape false untagged (variants (
          variant b (newtype_contents (item (codes "B") (open_struct (field a (to a) (stated nothing_given) ∷ field b whole_entry required ∷ []))))
          ∷ variant c (newtype_contents (item (codes "C") (open_struct []))) ∷ []));
    };
  } ∷ [];
  trees = [];
}

-- the default of a definition's field leaves out a field of another, whose default leaves out nothing
abbrev pub chained : Table
chained = record {
  targets =
      record { target = definition a; led_to = record { name = codes "A"; shape = open_struct (field b (to b) (stated nothing_given) ∷ []) } }
      ∷ record { target = definition b; led_to = record { name = codes "B"; shape = open_struct (field c whole_entry (stated (num 1)) ∷ []) } } ∷ [];
  trees = [];
}

pub record WorkedDefaults : Type 0 where
  pub of_another_kind : supplied (alone whole_entry) sample whole_entry (str "x") ≡ refused
  pub taken : supplied (alone whole_entry) sample whole_entry (num 7) ≡ ended
  pub null_of_an_option : supplied (alone whole_entry) sample (option_entry whole_entry) null ≡ ended
  pub in_a_list : supplied round sample (vec_entry (to a)) (arr (nothing_given ∷ [])) ≡ endless
  pub an_empty_list : supplied round sample (vec_entry (to a)) (arr []) ≡ ended
  pub comes_round : supplied round sample (to a) nothing_given ≡ endless
  pub given_once : supplied round sample (to a) (obj ("a" ≔ nothing_given ∷ [])) ≡ endless
  pub refused_first : supplied round sample (to a) (obj ("a" ≔ num 1 ∷ [])) ≡ refused
  pub both_come_round : supplied in_turn sample (to b) nothing_given ≡ endless
  pub inside_a_default : supplied (alone nested) sample nested nothing_given ≡ ended
  pub through_references : supplied chained sample (to a) nothing_given ≡ ended
  pub told_by_itself : supplied (alone unread_inside) sample unread_inside nothing_given ≡ ended
  pub before_a_refusal : supplied forgets sample (to a) nothing_given ≡ endless
  pub by_the_first_variant : supplied either sample (to a) nothing_given ≡ endless
