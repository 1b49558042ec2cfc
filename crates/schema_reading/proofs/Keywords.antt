-- What stands at a keyword of a map.
use Rattle.std.proofs.Common.{◌≡◌, ℕ, List, Option, Some, None, option_map, string_bytes, nat_cmp, Bor, refl, sym, ap, ◌∙◌}
use Rattle.std.specs.Map.{lookup}
use Rattle.std.specs.BTreeMap.{is_at}
use Rattle.std.specs.Cmp.Lexicographic.{slice_cmp}
use Rattle.serde_json.specs.declared.value.Value as json
use Rattle.serde_json.specs.View.{view, members_view}
use Rattle.json_value.specs.View.{value_of, members_of}
use Rattle.schema_defs.specs.Read.{reading}
use Rattle.schema_defs.proofs.Unknown.{keywords_are_members}
use Rattle.json_value.proofs.Lookups.{got}
use Rattle.schema_reading.specs.Reading.{Entries, readings, looked_up, read_now}

seen : (r : Option (Bor json.Value)) → option_map read_now r ≡ option_map reading (option_map (λ x. value_of (view x.now)) r)
seen None = refl
seen (Some v) = refl

-- what a map has at a name is what is looked up there
pub found : (n : List ℕ) (es : Entries) (r : Option (Bor json.Value)) → option_map (λ x. x.now) r ≡ lookup (is_at (λ k. slice_cmp nat_cmp n (string_bytes k))) es
    → option_map read_now r ≡ looked_up es n
unfolding looked_up readings
found n es r h = seen r ∙ ap (option_map reading) (got n es r h) ∙ sym (keywords_are_members n (members_of (members_view es)))
