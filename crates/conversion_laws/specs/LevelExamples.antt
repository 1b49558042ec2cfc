-- An entry that more levels change: past a walk with too many steps it goes on as far as levels allow, so it is the same only where no walk has too many.
use Rattle.std.specs.Prelude.{◌≡◌, ℕ, List, [], ◌∷◌, map, Option, Some, option_map, codes}
use Rattle.json_value.specs.Value.{Value}
use Rattle.schema_defs.specs.declared.Setting.TheVariants.{Strict}
use Rattle.schema_defs.specs.Location.{location_text}
use Rattle.schema_defs.specs.Read.{document_of}
use Rattle.schema_defs.specs.Build.{◌≔◌, str, obj, typed, sample}
use Rattle.entry_defs.specs.Entry.{Entry, any_entry, text_entry, vec_entry}
use Rattle.entry_defs.specs.Table.{root_of}
use Rattle.convert_walks.specs.Tree.{table_of}
use Rattle.convert_walks.specs.Told.{Reason, too_deep, faults_of}

abbrev pub lists_of : Value → Value
lists_of s = obj ("type" ≔ str "array" ∷ "items" ≔ s ∷ [])

-- where a walk may have no step, by so many levels
abbrev pub root_by : ℕ → Value → Option Entry
root_by n s = option_map (λ d. root_of (table_of sample d 0 n)) (document_of Strict s)

abbrev pub faults_by : ℕ → Value → Option (List (List ℕ × Reason))
faults_by n s = option_map (λ d. map (λ f. (location_text f.0, f.1)) (faults_of sample d 0 n)) (document_of Strict s)

abbrev pub too_deep_items : List (List ℕ × Reason)
too_deep_items = (codes "#/items", too_deep ([] ∷ (codes "items" ∷ []) ∷ [])) ∷ []

pub record LevelExamples : Type 0 where
  pub by_two : root_by 2 (lists_of (lists_of (typed "string"))) ≡ Some (vec_entry (vec_entry any_entry))
  pub by_three : root_by 3 (lists_of (lists_of (typed "string"))) ≡ Some (vec_entry (vec_entry text_entry))
  pub told_by_two : faults_by 2 (lists_of (lists_of (typed "string"))) ≡ Some too_deep_items
  pub told_by_three : faults_by 3 (lists_of (lists_of (typed "string"))) ≡ Some too_deep_items
