-- Variants one after another, each beside the kinds of those before it.
use Rattle.std.proofs.Common.{◌≡◌, ℕ, suc, ◌+◌, ◌≤◌, ◌<◌, List, [], ◌∷◌, drop, length, get_or, Bool, true, false, not, ◌&&◌, ◌||◌, refl, sym, ap, ◌∙◌}
use Rattle.std.specs.List.{list_all}
use Rattle.std.proofs.lemmas.List.{drop_all}
use Rattle.model_defs.specs.Model.{VariantModel, ContainerModel}
use Rattle.model_defs.specs.Layer.{variant_content}
use Rattle.value_models.specs.declared.variant.Variant.{Variant}
use Rattle.value_models.specs.VariantView.{variant_view, variants_view}
use Rattle.writing_laws.specs.Kinds.{Kind, nulls, booleans, numbers, texts, lists, objects, every_kind, content_may_read, are_apart, variants_are_apart}
use Rattle.value_kinds.specs.declared.type_kinds.TypeKinds.{TypeKinds}
use Rattle.value_kinds.specs.Kinds.{has, kinds_where}
use Rattle.plain_tables.specs.Apart.{is_clear, are_clear}
use Rattle.plain_tables.proofs.Once.{all_split, next}

neither : (s x u : Bool) → not ((s || x) && u) ≡ (not (s && u) && not (x && u))
neither true true true = refl
neither true true false = refl
neither true false true = refl
neither true false false = refl
neither false true true = refl
neither false true false = refl
neither false false true = refl
neither false false false = refl

-- six tests of each of two
six : (a b c d e f g h i j k l : Bool) → ((a && g) && ((b && h) && ((c && i) && ((d && j) && ((e && k) && ((f && l) && true)))))) ≡ ((a && (b && (c && (d && (e && (f && true)))))) && (g && (h && (i && (j && (k && (l && true)))))))
six a b c d e f g h i j k l =
    one a g (b && (c && (d && (e && (f && true))))) (h && (i && (j && (k && (l && true))))) _
    (one b h (c && (d && (e && (f && true)))) (i && (j && (k && (l && true)))) _
    (one c i (d && (e && (f && true))) (j && (k && (l && true))) _
    (one d j (e && (f && true)) (k && (l && true)) _
    (one e k (f && true) (l && true) _ (one f l true true true refl)))))
  where
    one : (a g r s t : Bool) → t ≡ (r && s) → ((a && g) && t) ≡ ((a && r) && (g && s))
    one true true r s t h = h
    one true false true s t h = refl
    one true false false s t h = refl
    one false g r s t h = refl

module _ (ms : List ContainerModel) (closed : Bool) where
  abbrev pub kinds_of : VariantModel → TypeKinds
  kinds_of w = kinds_where (λ k. content_may_read k ms (variant_content closed w))

  abbrev old_apart : TypeKinds → VariantModel → Kind → Bool
  old_apart seen u k = not (has seen k && content_may_read k ms (variant_content closed u))

  abbrev own_apart : VariantModel → VariantModel → Kind → Bool
  own_apart w u k = not (content_may_read k ms (variant_content closed w) && content_may_read k ms (variant_content closed u))

  split : (seen : TypeKinds) (w u : VariantModel) (k : Kind)
      → not ((has seen k || content_may_read k ms (variant_content closed w)) && content_may_read k ms (variant_content closed u)) ≡ (old_apart seen u k && own_apart w u k)
  split seen w u k = neither (has seen k) (content_may_read k ms (variant_content closed w)) (content_may_read k ms (variant_content closed u))

  joined : (seen : TypeKinds) (w u : VariantModel) → is_clear ms closed (kinds_where (λ k. has seen k || has (kinds_of w) k)) u ≡ (is_clear ms closed seen u && are_apart ms (variant_content closed w) (variant_content closed u))
  joined seen w u =
      (λ t. split seen w u nulls t && (split seen w u booleans t && (split seen w u numbers t && (split seen w u texts t && (split seen w u lists t && (split seen w u objects t && true))))))
      ∙ six (old_apart seen u nulls) (old_apart seen u booleans) (old_apart seen u numbers) (old_apart seen u texts) (old_apart seen u lists) (old_apart seen u objects)
      (own_apart w u nulls) (own_apart w u booleans) (own_apart w u numbers) (own_apart w u texts) (own_apart w u lists) (own_apart w u objects)

  clear_next : (seen : TypeKinds) (w : VariantModel) (ws : List VariantModel) → are_clear ms closed seen (w ∷ ws) ≡ (is_clear ms closed seen w && are_clear ms closed (kinds_where (λ k. has seen k || has (kinds_of w) k)) ws)
  clear_next seen w ws =
      together (is_clear ms closed seen w) (list_all (is_clear ms closed seen) ws) (list_all (λ u. are_apart ms (variant_content closed w) (variant_content closed u)) ws && variants_are_apart ms closed ws)
      ∙ ap (λ b. is_clear ms closed seen w && b)
      (all_split (is_clear ms closed seen) (λ u. are_apart ms (variant_content closed w) (variant_content closed u)) (is_clear ms closed (kinds_where (λ k. has seen k || has (kinds_of w) k))) (joined seen w) ws (variants_are_apart ms closed ws))
    where
      together : (a b c : Bool) → ((a && b) && c) ≡ (a && (b && c))
      together true b c = refl
      together false b c = refl

  clear_of_none : (ws : List VariantModel) → list_all (is_clear ms closed (kinds_where (λ k. false))) ws ≡ true
  clear_of_none [] = refl
  clear_of_none (w ∷ ws) = clear_of_none ws

  pub clear_begins : (ws : List VariantModel) (seen : TypeKinds) → seen ≡ kinds_where (λ k. false) → variants_are_apart ms closed ws ≡ are_clear ms closed seen ws
  clear_begins ws seen e = ap (λ b. b && variants_are_apart ms closed ws) (sym (clear_of_none ws)) ∙ ap (λ s. are_clear ms closed s ws) (sym e)

  abbrev pub is_apart_from : TypeKinds → TypeKinds → Bool
  is_apart_from a b = list_all (λ k. not (has a k && has b k)) every_kind

  pub clear_turn : (ws : List Variant) (i : ℕ) (x : Variant) (seen now kinds : TypeKinds) (b w : Bool) → i < length ws → x ≡ get_or ws i x → kinds ≡ kinds_of (variant_view x) → b ≡ is_apart_from seen kinds → b ≡ true
      → now ≡ kinds_where (λ k. has seen k || has kinds k) → w ≡ are_clear ms closed seen (variants_view (drop i ws)) → w ≡ are_clear ms closed now (variants_view (drop (i + 1) ws))
  clear_turn ws i x seen now kinds b w h e q a k n was =
      was ∙ ap (λ xs. are_clear ms closed seen (variants_view xs)) (next ws i x h e) ∙ clear_next seen (variant_view x) (variants_view (drop (i + 1) ws))
      ∙ ap (λ z. z && are_clear ms closed (kinds_where (λ k. has seen k || has (kinds_of (variant_view x)) k)) (variants_view (drop (i + 1) ws))) (ap (is_apart_from seen) (sym q) ∙ sym a ∙ k)
      ∙ ap (λ s. are_clear ms closed s (variants_view (drop (i + 1) ws))) (sym (n ∙ ap (λ y. kinds_where (λ k. has seen k || has y k)) q))

  pub clear_stop : (ws : List Variant) (i : ℕ) (x : Variant) (seen kinds : TypeKinds) (b w : Bool) → i < length ws → x ≡ get_or ws i x → kinds ≡ kinds_of (variant_view x) → b ≡ is_apart_from seen kinds → b ≡ false
      → w ≡ are_clear ms closed seen (variants_view (drop i ws)) → false ≡ w
  clear_stop ws i x seen kinds b w h e q a k was =
      sym (was ∙ ap (λ xs. are_clear ms closed seen (variants_view xs)) (next ws i x h e) ∙ clear_next seen (variant_view x) (variants_view (drop (i + 1) ws))
      ∙ ap (λ z. z && are_clear ms closed (kinds_where (λ k. has seen k || has (kinds_of (variant_view x)) k)) (variants_view (drop (i + 1) ws))) (ap (is_apart_from seen) (sym q) ∙ sym a ∙ k))

  pub clear_end : (ws : List Variant) (i : ℕ) (seen : TypeKinds) (w : Bool) → length ws ≤ i → w ≡ are_clear ms closed seen (variants_view (drop i ws)) → true ≡ w
  clear_end ws i seen w h was = sym (was ∙ ap (λ xs. are_clear ms closed seen (variants_view xs)) (drop_all i ws h))
