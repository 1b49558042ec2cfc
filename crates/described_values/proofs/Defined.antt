-- Definitions from the last to the first, beside the schema of the root.
use Rattle.std.proofs.Common.{◌≡◌, ℕ, suc, ◌+◌, ◌≤◌, ◌<◌, List, [], ◌∷◌, map, drop, length, get_or, codes, refl, sym, ap, ◌∙◌, drop-cons, arith, String, string_bytes}
use Rattle.std.specs.declared.alloc.Global.{Global}
use Rattle.std.specs.Ordering.{match_ordering}
use Rattle.std.specs.declared.cmp.Ordering.TheVariants.{Less, Equal, Greater}
use Rattle.serde_json.specs.declared.value.Value as value'
use Rattle.serde_json.specs.Data.{Num, unsigned, negative, float}
use Rattle.json_value.specs.Value.{Value, Members, object, member, members}
use Rattle.json_value.specs.View.{kept_view, number_value}
use Rattle.schema_defs.specs.Build.{obj}
use Rattle.model_defs.specs.Types.{TypeModel}
use Rattle.model_defs.specs.Model.{ConversionsD, ContainerModel}
use Rattle.value_models.specs.declared.container.Container.{Container}
use Rattle.value_models.specs.ContainerView.{container_view, containers_view}
use Rattle.describe_defs.specs.Description.{with_entry, in_order}
use Rattle.describe_defs.specs.Written.{with_member, beside_value, item_value, definition_value, description_value, type_value}
use Rattle.describe_defs.proofs.Ordered.{order}
use Rattle.value_writing.specs.Seen.{kept_members}
use Rattle.described_values.specs.Seen.{kept_entries}
use Rattle.described_values.proofs.Members.{members_seen}

pub one_before : (cs : ConversionsD) (ms : List Container) (i j : ℕ) (m : Container) (v : Value) (old new : List (List ℕ × Value)) → j + 1 ≡ i → j < length ms → m ≡ get_or ms j m
    → v ≡ item_value cs (container_view m) → new ≡ with_entry (string_bytes m.name, v) old → old ≡ in_order (map (definition_value cs) (containers_view (drop i ms)))
    → new ≡ in_order (map (definition_value cs) (containers_view (drop j ms)))
one_before cs ms i j m v old new s h e k l was =
    l ∙ (λ t. with_entry (string_bytes m.name, k t) (was t))
    ∙ ap (λ x. with_entry (definition_value cs (container_view m)) (in_order (map (definition_value cs) (containers_view (drop x ms))))) (sym (let x : suc j ≡ i = omega (arith, s) in x))
    ∙ sym (ap (λ ys. in_order (map (definition_value cs) (containers_view ys))) (drop-cons ms j m h ∙ ap (λ y. y ∷ drop (suc j) ms) (sym e)))

pub all_before : (cs : ConversionsD) (ms : List Container) (i : ℕ) (es : List (List ℕ × Value)) → i ≡ 0 → es ≡ in_order (map (definition_value cs) (containers_view (drop i ms)))
    → es ≡ in_order (map (definition_value cs) (containers_view ms))
all_before cs ms i es e was = was ∙ ap (λ k. in_order (map (definition_value cs) (containers_view (drop k ms)))) e

-- ---- beside the root

with_is : (n : List ℕ) (v : Value) (es : List (List ℕ × Value)) → members (with_entry (n, v) es) ≡ with_member n v (members es)
with_is n v [] = refl
with_is n v (f ∷ fs) =
    let rec = with_is n v fs in
    elim (order n f.0) as (λ o. members (match_ordering o ((n, v) ∷ f ∷ fs) ((n, v) ∷ f ∷ fs) (f ∷ with_entry (n, v) fs))
    ≡ match_ordering o (member n v (members (f ∷ fs))) (member n v (members (f ∷ fs))) (member f.0 f.1 (with_member n v (members fs)))) [
      | Less ↦ refl
      | Equal ↦ refl
      | Greater ↦ ap (member f.0 f.1) rec
    ]

abbrev Entry : Type 0
Entry = String Global × value'.Value

pub beside_members : (old new : List Entry) (d : Value) → kept_entries new ≡ with_entry (codes "definitions", d) (kept_entries old) → object (kept_members new) ≡ beside_value d (object (kept_members old))
beside_members old new d e =
    ap object (members_seen new ∙ ap members e ∙ with_is (codes "definitions") d (kept_entries old) ∙ ap (with_member (codes "definitions") d) (sym (members_seen old)))

pub beside_number : (d : Value) (n : Num) → number_value n ≡ beside_value d (number_value n)
beside_number d (unsigned n) = refl
beside_number d (negative z) = refl
beside_number d (float x) = refl

pub definitions_seen : (es : List Entry) (ds : List (List ℕ × Value)) → kept_entries es ≡ ds → object (kept_members es) ≡ object (members ds)
definitions_seen es ds e = ap object (members_seen es ∙ ap members e)

pub no_containers : (ms : List ContainerModel) (cs : ConversionsD) (root : TypeModel) (v : Value) (n : ℕ) → n ≡ length ms → n ≡ 0 → v ≡ type_value root → v ≡ description_value ms cs root
no_containers [] cs root v n l e k = k
no_containers (m ∷ ms) cs root v n l e k = absurd (omega (arith, l, e))

pub some_containers : (ms ns : List ContainerModel) (cs : ConversionsD) (root : TypeModel) (v d r : Value) (n : ℕ) → n ≡ length ms → 0 < n → ns ≡ ms → r ≡ type_value root
    → d ≡ object (members (in_order (map (definition_value cs) ns))) → v ≡ beside_value d r → v ≡ description_value ms cs root
some_containers [] ns cs root v d r n l e s k h b = absurd (omega (arith, l, e))
some_containers (m ∷ ms) ns cs root v d r n l e s k h b = b ∙ (λ i. beside_value ((h ∙ ap (λ xs. object (members (in_order (map (definition_value cs) xs)))) s) i) (k i))
