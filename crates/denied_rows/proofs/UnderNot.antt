-- Listed values under `not`.
use Rattle.std.proofs.Common.{◌≡◌, ℕ, List, [], ◌∷◌, Bool, true, false, ◌&&◌, ◌||◌, not, Option, Some, None, is_none, is_some, refl, ap, ◌∙◌}
use Rattle.std.specs.Prelude.{if◌then◌else◌}
use Rattle.std.specs.List.{list_all}
use Rattle.json_value.specs.Value as value
use Rattle.json_value.specs.Value.{Value}
use Rattle.model_defs.specs.Layer.{is_text, is_boolean}
use Rattle.schema_defs.specs.Schema.{Plain, object, Same, Lists, Named}
use Rattle.enum_defs.specs.Words.{without_same}
use Rattle.convert_defs.specs.Row.{Finding, plainly, leaf_row, refused_row, bad_not}
use Rattle.convert_defs.specs.Standing.{less_enum}
use Rattle.convert_defs.specs.Scalars.{never_entry}
use Rattle.convert_defs.specs.Table.{not_finding, no_others, has_one_type, deny, denied, type_of_listed, under_not, listed}
use Rattle.denied_rows.specs.Denied.{is_some_listed, type_of_values, not_listed}

or_true : (b : Bool) → (b || true) ≡ true
or_true true = refl
or_true false = refl

pub nothing_listed : (vs : List Value) → (not (list_all is_text vs) || not (list_all is_boolean vs)) ≡ is_some_listed vs
nothing_listed [] = refl
nothing_listed (value.null ∷ vs) = refl
nothing_listed (value.boolean b ∷ vs) = refl
nothing_listed (value.number z ∷ vs) = refl
nothing_listed (value.fraction ∷ vs) = refl
nothing_listed (value.text s ∷ vs) = or_true (not (list_all is_text vs))
nothing_listed (value.list xs ∷ vs) = refl
nothing_listed (value.object ms ∷ vs) = refl

pub type_seen : (vs : List Value) → type_of_listed vs ≡ (if is_some_listed vs then type_of_values vs else None)
type_seen [] = refl
type_seen (v ∷ vs) = refl

module _ (name : List ℕ) (p : Plain) (ss : Same) (ls : Lists) (ns : Named) where
  abbrev takes-all : Bool
  takes-all = is_none p.types && no_others p ls ns && without_same ss

  -- by what `enum` lists, where a value is refused
  abbrev by_enum : Option (List Value) → Finding
  by_enum e =
      if has_one_type p.types && is_some e then deny (under_not (object (less_enum p) ss ls ns)) (listed e)
      else if is_none p.types && is_some e && no_others (less_enum p) ls ns && without_same ss then denied (type_of_listed (listed e)) (listed e)
      else plainly (refused_row bad_not)

  pub nothing_under : (is_none p.types && no_others p ls ns && without_same ss) ≡ true → not_finding name (object p ss ls ns) ≡ plainly (leaf_row (never_entry name))
  nothing_under h = λ i. if h i then plainly (leaf_row (never_entry name)) else by_enum p.enum_values

  something-under : takes-all ≡ false → not_finding name (object p ss ls ns) ≡ by_enum p.enum_values
  something-under h = λ i. if h i then plainly (leaf_row (never_entry name)) else by_enum p.enum_values

  pub listed_seen : (vs : List Value) → (is_none p.types && no_others p ls ns && without_same ss) ≡ false → p.enum_values ≡ Some vs → not_finding name (object p ss ls ns) ≡ not_listed p ss ls ns vs
  listed_seen vs h e = something-under h ∙ ap by_enum e ∙ by (has_one_type p.types) (is_none p.types)
    where
      by : (t n : Bool)
          → (if t && true then deny (under_not (object (less_enum p) ss ls ns)) vs else if n && true && no_others (less_enum p) ls ns && without_same ss then denied (type_of_listed vs) vs else plainly (refused_row bad_not))
          ≡ (if t then deny (under_not (object (less_enum p) ss ls ns)) vs else if n && no_others (less_enum p) ls ns && without_same ss then denied (type_of_listed vs) vs else plainly (refused_row bad_not))
      by true n = refl
      by false true = refl
      by false false = refl

  pub unlisted_seen : (is_none p.types && no_others p ls ns && without_same ss) ≡ false → p.enum_values ≡ None → not_finding name (object p ss ls ns) ≡ plainly (refused_row bad_not)
  unlisted_seen h e = something-under h ∙ ap by_enum e ∙ by (has_one_type p.types) (is_none p.types)
    where
      by : (t n : Bool)
          → (if t && false then deny (under_not (object (less_enum p) ss ls ns)) [] else if n && false && no_others (less_enum p) ls ns && without_same ss then denied (type_of_listed []) [] else plainly (refused_row bad_not))
          ≡ plainly (refused_row bad_not)
      by true true = refl
      by true false = refl
      by false true = refl
      by false false = refl
