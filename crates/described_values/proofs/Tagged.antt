-- Variants, one after another, and their tags.
use Rattle.std.proofs.Common.{◌≡◌, ℕ, suc, ◌+◌, ◌≤◌, ◌<◌, List, [], ◌∷◌, ◌++◌, map, drop, length, get_or, Bool, refl, sym, ap, ◌∙◌, append_assoc}
use Rattle.std.proofs.lemmas.List.{drop_all, append-nil, map-append}
use Rattle.serde_json.specs.declared.value.Value as value'
use Rattle.json_value.specs.Value.{Value, Items, items, item}
use Rattle.json_value.specs.View.{kept_view}
use Rattle.model_defs.specs.Model.{VariantModel, TagModel}
use Rattle.value_models.specs.declared.variant.Variant.{Variant}
use Rattle.value_models.specs.VariantView.{variant_view, variants_view}
use Rattle.describe_defs.specs.Written.{EntryV, object_value, required_value, tag_value, never_value, variant_value, variant_values}
use Rattle.described_types.specs.Seen.{kept_items}
use Rattle.described_values.specs.Shown.{Shown, shown, shown_with, object_of, nothing_shown}
use Rattle.described_values.proofs.Gathered.{next, objects_are}

pub tagged_is : (tag : List ℕ) (w : VariantModel) (es : List EntryV) (s : Shown) (v : Value) → s ≡ shown es → v ≡ object_of (shown_with (tag_value tag w) s) never_value → v ≡ object_value (tag_value tag w ∷ es) never_value
tagged_is tag w es s v e h = h ∙ ap (λ z. object_of (shown_with (tag_value tag w) z) never_value) e ∙ objects_are (tag_value tag w ∷ es) never_value

pub one_member : (n : List ℕ) (c v : Value) (s t : Shown) → s ≡ nothing_shown → t ≡ shown_with (required_value n c) s → v ≡ object_of t never_value → v ≡ object_value (required_value n c ∷ []) never_value
one_member n c v s t a b h = h ∙ ap (λ z. object_of z never_value) (b ∙ ap (shown_with (required_value n c)) a) ∙ objects_are (required_value n c ∷ []) never_value

-- ---- one after another

as_values : (f : VariantModel → Value) (ws : List VariantModel) → items (map f ws) ≡ variant_values f ws
as_values f [] = refl
as_values f (w ∷ ws) = ap (item (f w)) (as_values f ws)

pub one_more : (closed : Bool) (tag : TagModel) (ws : List Variant) (i : ℕ) (x : Variant) (old new : List value'.Value) (v : value'.Value) (all : List Value)
    → i < length ws → x ≡ get_or ws i x → kept_view v ≡ variant_value closed tag (variant_view x) → new ≡ old ++ v ∷ []
    → map kept_view old ++ map (variant_value closed tag) (variants_view (drop i ws)) ≡ all → map kept_view new ++ map (variant_value closed tag) (variants_view (drop (i + 1) ws)) ≡ all
one_more closed tag ws i x old new v all h e k n was =
    ap (λ vs. map kept_view vs ++ map (variant_value closed tag) (variants_view (drop (i + 1) ws))) n ∙ ap (λ ys. ys ++ map (variant_value closed tag) (variants_view (drop (i + 1) ws))) (map-append kept_view old (v ∷ []))
    ∙ append_assoc (map kept_view old) (kept_view v ∷ []) (map (variant_value closed tag) (variants_view (drop (i + 1) ws)))
    ∙ ap (λ z. map kept_view old ++ z ∷ map (variant_value closed tag) (variants_view (drop (i + 1) ws))) k
    ∙ ap (λ us. map kept_view old ++ map (variant_value closed tag) (variants_view us)) (sym (next ws i x h e)) ∙ was

pub no_more : (closed : Bool) (tag : TagModel) (ws : List Variant) (i : ℕ) (vs : List value'.Value) → length ws ≤ i
    → map kept_view vs ++ map (variant_value closed tag) (variants_view (drop i ws)) ≡ map (variant_value closed tag) (variants_view ws) → kept_items vs ≡ variant_values (variant_value closed tag) (variants_view ws)
no_more closed tag ws i vs h was =
    ap items (sym (append-nil (map kept_view vs)) ∙ ap (λ us. map kept_view vs ++ map (variant_value closed tag) (variants_view us)) (sym (drop_all i ws h)) ∙ was)
    ∙ as_values (variant_value closed tag) (variants_view ws)
