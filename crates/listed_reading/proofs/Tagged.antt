-- What the tag of an enum says of a value.
use Rattle.std.proofs.Common.{◌≡◌, ℕ, List, Bool, false, ◌||◌, Some, None, refl, sym, ap, ◌∙◌}
use Rattle.std.specs.List.{list_any}
use Rattle.json_value.specs.Value as value
use Rattle.json_value.specs.Value.{Value, null, number, fraction, text, list, object}
use Rattle.enum_defs.specs.Words.{as_text}
use Rattle.schema_defs.specs.Texts.{Relations}
use Rattle.model_defs.specs.Model.{external_tag, untagged}
use Rattle.entry_defs.specs.Entry.{item, enum_shape, Variants, no_variants, variant_then, Contents, unit_contents, newtype_contents, tuple_contents, struct_contents, variants_of}
use Rattle.entry_defs.specs.Layer.{contents_entry, is_unit_named, variant_named, some_takes, same_takes}
use Rattle.entry_defs.specs.Takes.{follows, parts_of}
use Rattle.listed_reading.specs.Followed.{Followed, takes_in}
use Rattle.listed_reading.specs.Owners.{is_object}

pub external_named : (v : Value) (s : List ℕ) (ws : Variants) (b : Bool) → Some s ≡ as_text v → b ≡ is_unit_named (variant_named s (variants_of ws))
    → (t : Followed) (r : Relations) (n : List ℕ) (closed : Bool) → takes_in t r (item n (enum_shape closed external_tag ws)) v ≡ b
unfolding takes_in
external_named null s ws b h k t r n closed = cc
external_named (value.boolean c) s ws b h k t r n closed = cc
external_named (number z) s ws b h k t r n closed = cc
external_named fraction s ws b h k t r n closed = cc
external_named (text u) s ws b h k t r n closed = let same : u ≡ s = cc in ap (λ z. is_unit_named (variant_named z (variants_of ws))) same ∙ sym k
external_named (list xs) s ws b h k t r n closed = cc
external_named (object ms) s ws b h k t r n closed = cc

pub external_refused : (v : Value) (ws : Variants) → None ≡ as_text v → is_object v ≡ false
    → (t : Followed) (r : Relations) (n : List ℕ) (closed : Bool) → takes_in t r (item n (enum_shape closed external_tag ws)) v ≡ false
unfolding takes_in
external_refused null ws h k t r n closed = refl
external_refused (value.boolean c) ws h k t r n closed = refl
external_refused (number z) ws h k t r n closed = refl
external_refused fraction ws h k t r n closed = refl
external_refused (text u) ws h k t r n closed = cc
external_refused (list xs) ws h k t r n closed = refl
external_refused (object ms) ws h k t r n closed = cc

module _ (v : Value) (t : Followed) (r : Relations) where
  same : (closed : Bool) (c : Contents) → same_takes r v (parts_of t.table r v) (follows t.table r v (parts_of t.table r v) t.most) closed c ≡ takes_in t r (contents_entry closed c) v
  unfolding takes_in
  same closed unit_contents = refl
  same closed (newtype_contents e) = refl
  same closed (tuple_contents es) = refl
  same closed (struct_contents fs) = refl

  some : (closed : Bool) (ws : Variants)
      → some_takes r v (parts_of t.table r v) (follows t.table r v (parts_of t.table r v) t.most) closed ws ≡ list_any (λ w. takes_in t r (contents_entry closed w.contents) v) (variants_of ws)
  unfolding takes_in
  some closed no_variants = refl
  some closed (variant_then i n c ws) =
      let one = same closed c in
      let others = some closed ws in
      λ k. one k || others k

pub untagged_passed : (v : Value) (ws : Variants) (t : Followed) (r : Relations) (n : List ℕ) (closed : Bool)
    → takes_in t r (item n (enum_shape closed untagged ws)) v ≡ list_any (λ w. takes_in t r (contents_entry closed w.contents) v) (variants_of ws)
unfolding takes_in
untagged_passed v ws t r n closed = some v t r closed ws
