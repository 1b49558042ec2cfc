-- The laws on small tables: by computation, where texts are cut at blanks, at marks and between words, and by themselves.
use Rattle.std.specs.Prelude.{◌≡◌, ◌++◌, ℕ, nat_eq, not, filter, List, [], ◌∷◌, Bool, true, false, option_map}
use Rattle.std.specs.List.{flat_map, AllByRecursion}
use Rattle.token_trees.specs.Token.{Tok, word, mark, fixed, group}
use Rattle.attr_parts.specs.declared.derive.Derive.TheVariants.{Serialize, Deserialize}
use Rattle.attr_parts.specs.Diagnostics.{DiagnosticD}
use Rattle.attr_defs.specs.Texts.{Lexing, lexed}
use Rattle.container_defs.specs.Model.{diagnostics_of}
use Rattle.container_defs.specs.Reader.{item_models}
use Rattle.container_defs.specs.Forms.{are_inside}
use Rattle.container_defs.specs.Told.{itself, always_z, private}
use Rattle.container_defs.specs.Written.{words}
use Rattle.json_value.specs.Value.{Value}
use Rattle.schema_defs.specs.Build.{◌≔◌, str, obj, arr, sample}
use Rattle.type_spellings.specs.Types.{type_of}
use Rattle.model_defs.specs.Reads.{reads}
use Rattle.entry_defs.specs.Table.{Table, root_of}
use Rattle.emit_defs.specs.Formed.{IsEmittable}
use Rattle.emit_defs.specs.Emission.{emission, models_of}
use Rattle.emit_defs.specs.Examples.{row_1, row_3, row_4, row_5, row_18, row_20, chain, enums, rules, leading, alike}

abbrev is_blank : Tok → Bool
is_blank (word x s) = false
is_blank (mark c j s) = nat_eq c 32
is_blank (fixed l s) = false
is_blank (group d ts s) = false

abbrev pub spaced : Lexing
spaced cs s = option_map (λ ts. filter (λ t. not (is_blank t)) ts) (words cs s)

-- what is told of the items, for both derives
abbrev pub told_of : Table → List DiagnosticD
told_of t = flat_map (λ i. diagnostics_of spaced always_z always_z private i Serialize ++ diagnostics_of spaced itself itself private i Deserialize) (emission t (root_of t)).items

pub record IsReadBack (t : Table) : Type 0 where
  pub untold : told_of t ≡ []
  pub inside : are_inside spaced always_z itself private Deserialize (emission t (root_of t)).conversions (emission t (root_of t)).items ≡ true
  pub read : item_models spaced always_z itself private Serialize (emission t (root_of t)).items ≡ models_of t

pub record ReadBack : Type 0 where
  pub row_1 : IsReadBack row_1
  pub row_3 : IsReadBack row_3
  pub row_4 : IsReadBack row_4
  pub row_5 : IsReadBack row_5
  pub row_18 : IsReadBack row_18
  pub row_20 : IsReadBack row_20
  pub chain : IsReadBack chain
  pub enums : IsReadBack enums
  pub rules : IsReadBack rules
  pub leading : IsReadBack leading
  pub alike : IsReadBack alike

-- ---- a table that can be emitted, its items as they are lexed, and what they read

abbrev pub reads_back : Value → Bool
reads_back v =
    let e = emission row_20 (root_of row_20) in
    reads (item_models lexed itself itself private Deserialize e.items) e.conversions sample (type_of e.root) v

abbrev pub copying : List (List ℕ × Value)
copying = "jobs" ≔ arr (obj ("from" ≔ str "a" ∷ "kind" ≔ str "copy" ∷ "to" ≔ str "b" ∷ []) ∷ []) ∷ []

pub record EmittedWhole : Type 0 where
  pub emittable : IsEmittable row_20
  pub untold : AllByRecursion (λ i. diagnostics_of lexed itself itself private i Deserialize ≡ []) (emission row_20 (root_of row_20)).items
  pub taken : reads_back (obj (copying ++ "name" ≔ str "n" ∷ [])) ≡ true
  pub refused : reads_back (obj copying) ≡ false
