-- Members put into a map from the last to the first, where no name comes twice.
use Rattle.std.proofs.Common.{◌≡◌, ℕ, suc, ◌+◌, ◌<◌, List, [], ◌∷◌, map, drop, length, get_or, Bool, false, Option, Some, None, refl, sym, ap, ◌∙◌, String, string_bytes, cond, is_some, true≢false, drop-cons, arith}
use Rattle.std.specs.declared.alloc.Global.{Global}
use Rattle.std.specs.declared.cmp.Ordering.{Ordering}
use Rattle.std.specs.declared.cmp.Ordering.TheVariants.{Less, Equal, Greater}
use Rattle.std.specs.Ordering.{nat_cmp, is_eq, match_ordering}
use Rattle.std.specs.BTreeMap.{insert_entry, is_at}
use Rattle.std.specs.Map.{lookup}
use Rattle.std.specs.String.{string_cmp}
use Rattle.serde_json.specs.declared.value.Value as value'
use Rattle.value_models.specs.declared.field.Field.{Field}
use Rattle.value_models.specs.FieldView.{field_view, fields_view}
use Rattle.json_value.specs.View.{kept_view}
use Rattle.describe_defs.specs.Description.{with_entry}
use Rattle.described_values.specs.Seen.{kept_entry, kept_entries}
use Rattle.described_values.specs.Shown.{Shown, shown_field, shown_fields}

abbrev Entry : Type 0
Entry = String Global × value'.Value

stands_next : (e : Entry) (es : List Entry) (k : String Global) (v : value'.Value)
    → (lookup (is_at (string_cmp k)) es ≡ None → kept_entries (insert_entry string_cmp es k v) ≡ with_entry (string_bytes k, kept_view v) (kept_entries es))
    → (o : Ordering) → cond (is_eq o) (Some e.1) (lookup (is_at (string_cmp k)) es) ≡ None
    → kept_entries (match_ordering o ((k, v) ∷ e ∷ es) ((e.0, v) ∷ es) (e ∷ insert_entry string_cmp es k v))
    ≡ match_ordering o ((string_bytes k, kept_view v) ∷ kept_entries (e ∷ es)) ((string_bytes k, kept_view v) ∷ kept_entries (e ∷ es)) (kept_entry e ∷ with_entry (string_bytes k, kept_view v) (kept_entries es))
stands_next e es k v further Less h = refl
stands_next e es k v further Equal h = absurd (true≢false (ap is_some h))
stands_next e es k v further Greater h = ap (λ z. kept_entry e ∷ z) (further h)

stands : (es : List Entry) (k : String Global) (v : value'.Value) → lookup (is_at (string_cmp k)) es ≡ None
    → kept_entries (insert_entry string_cmp es k v) ≡ with_entry (string_bytes k, kept_view v) (kept_entries es)
stands [] k v h = refl
stands (e ∷ es) k v h = stands_next e es k v (stands es k v) (string_cmp k e.0) h

-- an entry put into a map that hasn't its name
pub entry_added : (es new : List Entry) (k : String Global) (v : value'.Value) (n : List ℕ) (o : Option value'.Value) → o ≡ lookup (is_at (string_cmp k)) es → is_some o ≡ false → new ≡ insert_entry string_cmp es k v
    → string_bytes k ≡ n → kept_entries new ≡ with_entry (n, kept_view v) (kept_entries es)
entry_added es new k v n (Some w) g b e h = absurd (true≢false b)
entry_added es new k v n None g b e h = ap kept_entries e ∙ stands es k v (sym g) ∙ ap (λ m. with_entry (m, kept_view v) (kept_entries es)) h

-- ---- fields, from the last to the first

pub field_before : (all : Bool) (fs : List Field) (i j : ℕ) (f : Field) (old new : Shown) → j + 1 ≡ i → j < length fs → f ≡ get_or fs j f → new ≡ shown_field all (field_view f) old → old ≡ shown_fields all (fields_view (drop i fs))
    → new ≡ shown_fields all (fields_view (drop j fs))
field_before all fs i j f old new s h e n was =
    n ∙ ap (shown_field all (field_view f)) (was ∙ ap (λ k. shown_fields all (fields_view (drop k fs))) (sym (let k : suc j ≡ i = omega (arith, s) in k)))
    ∙ sym (ap (λ ys. shown_fields all (fields_view ys)) (drop-cons fs j f h ∙ ap (λ y. y ∷ drop (suc j) fs) (sym e)))

pub all_fields : (all : Bool) (fs : List Field) (i : ℕ) (s : Shown) → i ≡ 0 → s ≡ shown_fields all (fields_view (drop i fs)) → s ≡ shown_fields all (fields_view fs)
all_fields all fs i s e was = was ∙ ap (λ k. shown_fields all (fields_view (drop k fs))) e
