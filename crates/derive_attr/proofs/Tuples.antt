-- The first tuple variant.
use Rattle.std.proofs.Common.{◌≡◌, ℕ, ◌+◌, ◌<◌, List, [], ◌∷◌, ◌++◌, true, false, cond, map, drop, length, get_or, ap, ◌∙◌, sym}
use Rattle.token_trees.specs.declared.token.Span.{Span}
use Rattle.syntax_trees.specs.Item.{variant_view}
use Rattle.syntax_trees.specs.declared.item.Variant.{Variant}
use Rattle.attr_parts.specs.Diagnostics.{DiagnosticD, tag_tuple}
use Rattle.attr_parts.specs.Places.{place_of, variant_spans}
use Rattle.attr_parts.proofs.Added.{mapped_drop}
use Rattle.attr_defs.specs.Container.{is_tuple, tuple_told}

abbrev told_at : Span → List DiagnosticD
told_at at = record { kind = tag_tuple; span = at } ∷ []

-- what is told of variants from one on is told of all
abbrev pub IsRest : List Variant → ℕ → Type 0
IsRest vs i = tuple_told (map variant_view vs) ≡ tuple_told (map variant_view (drop i vs))

-- a variant that is a tuple is told
pub told_here : (old now new : List DiagnosticD) (vs : List Variant) (i : ℕ) (x : Variant) (at : Span) → i < length vs → x ≡ get_or vs i x → is_tuple (variant_view x).fields ≡ true → at ≡ place_of (variant_spans (variant_view x))
    → IsRest vs i → now ≡ old → new ≡ now ++ told_at at → new ≡ old ++ tuple_told (map variant_view vs)
told_here old now new vs i x at h e t p r s n =
    let rest = tuple_told (map variant_view (drop (i + 1) vs)) in
    n ∙ ap (λ l. l ++ told_at at) s ∙ ap (λ a. old ++ told_at a) p
    ∙ ap (λ l. old ++ l) (sym (r ∙ ap tuple_told (mapped_drop variant_view vs i x h e) ∙ ap (λ b. cond b (told_at (place_of (variant_spans (variant_view x)))) rest) t))

-- one that isn't changes nothing
pub told_later : (vs : List Variant) (i : ℕ) (x : Variant) → i < length vs → x ≡ get_or vs i x → is_tuple (variant_view x).fields ≡ false → IsRest vs i → IsRest vs (i + 1)
told_later vs i x h e t r =
    let rest = tuple_told (map variant_view (drop (i + 1) vs)) in
    r ∙ ap tuple_told (mapped_drop variant_view vs i x h e) ∙ ap (λ b. cond b (told_at (place_of (variant_spans (variant_view x)))) rest) t
