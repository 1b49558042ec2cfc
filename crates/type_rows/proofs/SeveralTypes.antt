-- Lists of types, and the variants of several.
use Rattle.std.proofs.Common.{◌≡◌, ℕ, suc, length, arith, List, [], ◌∷◌, ◌++◌, map, filter, Bool, true, false, ◌&&◌, cond, Option, Some, None, refl, sym, ap, ◌∙◌, append_assoc}
use Rattle.std.specs.Prelude.{◌↔◌, IsTrue, if◌then◌else◌}
use Rattle.std.specs.List.{list_all}
use Rattle.schema_defs.specs.declared.InstanceType.{InstanceType}
use Rattle.schema_defs.specs.declared.InstanceType.TheVariants.{Null, Boolean, Object, Array, Number, Text, Integer}
use Rattle.schema_defs.specs.Schema.{Types, one_type, many_types, Plain, Lists, Named}
use Rattle.convert_defs.specs.Row.{VariantRow}
use Rattle.convert_defs.specs.Table.{type_among, type_variant, type_variants, same_types, same_lists, every_type}
use Rattle.type_rows.specs.Line.{variant_if}

pub no_types_beside : (t : Types) → same_types (Some t) None ≡ false
no_types_beside (one_type k) = refl
no_types_beside (many_types ks) = refl

no_more_than_none : (n : ℕ) → suc n ≡ 0 → ⊥
no_more_than_none n h = omega arith

-- a list is the same as none where it is empty
pub none_left : (b : Bool) (ks : List InstanceType) → (IsTrue b ↔ (length ks ≡ 0)) → b ≡ same_lists [] ks
none_left b [] h = h.1 refl
none_left true (k ∷ ks) h = absurd (no_more_than_none (length ks) (h.0 refl))
none_left false (k ∷ ks) h = refl

pub seven : (a b c d e f g : Bool) → ((a && b && c && d) && (e && f && g)) ≡ (a && (b && (c && (d && (e && (f && (g && true)))))))
seven true true true true true true true = refl
seven true true true true true true false = refl
seven true true true true true false g = refl
seven true true true true false f g = refl
seven true true true false e f g = refl
seven true true false d e f g = refl
seven true false c d e f g = refl
seven false b c d e f g = refl

pub seven_types : (t : Option Types) → ((type_among Null t && type_among Boolean t && type_among Object t && type_among Array t) && (type_among Number t && type_among Text t && type_among Integer t)) ≡ list_all (λ k. type_among k t) every_type
seven_types t = seven (type_among Null t) (type_among Boolean t) (type_among Object t) (type_among Array t) (type_among Number t) (type_among Text t) (type_among Integer t)

module _ (p : Plain) (ls : Lists) (ns : Named) where
  kept : (k : InstanceType) (ks : List InstanceType) → map (type_variant p ls ns) (filter (λ l. type_among l p.types) (k ∷ ks)) ≡ variant_if p ls ns k ++ map (type_variant p ls ns) (filter (λ l. type_among l p.types) ks)
  kept k ks = by (type_among k p.types)
    where
      by : (b : Bool) → map (type_variant p ls ns) (cond b (k ∷ filter (λ l. type_among l p.types) ks) (filter (λ l. type_among l p.types) ks)) ≡ (if b then type_variant p ls ns k ∷ [] else []) ++ map (type_variant p ls ns) (filter (λ l. type_among l p.types) ks)
      by true = refl
      by false = refl

  -- what is gathered, with the types to come
  abbrev pub gathered : List VariantRow → List InstanceType → List VariantRow
  gathered done ks = done ++ map (type_variant p ls ns) (filter (λ l. type_among l p.types) ks)

  pub gathered_one : (done more : List VariantRow) (k : InstanceType) (ks : List InstanceType) → more ≡ done ++ variant_if p ls ns k → gathered done (k ∷ ks) ≡ gathered more ks
  gathered_one done more k ks h = ap (λ ws. done ++ ws) (kept k ks) ∙ sym (append_assoc done (variant_if p ls ns k) (map (type_variant p ls ns) (filter (λ l. type_among l p.types) ks))) ∙ ap (λ ws. ws ++ map (type_variant p ls ns) (filter (λ l. type_among l p.types) ks)) (sym h)
