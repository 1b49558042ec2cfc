-- The names of a small value rise, so that they differ.
use Rattle.std.proofs.Common.{◌≡◌, ℕ, List, false, ◌||◌, sym, ap, ◌∙◌, refl, bytes_eq}
use Rattle.std.proofs.lemmas.Cmp.{nat_list_cmp_total}
use Rattle.std.proofs.lemmas.Map.Text.{is_eq-slice_cmp}
use Rattle.std.specs.Ordering.{nat_cmp, is_eq}
use Rattle.std.specs.Cmp.Lexicographic.{slice_cmp}
use Rattle.std.specs.declared.cmp.Ordering.TheVariants.{Less}
use Rattle.json_value.specs.Value as value
use Rattle.json_value.specs.Value.{Value, Items, Members, null, number, fraction, text, list, item, no_items, member, no_members, has_name, IsSmall, AllSmall, MembersSmall, IsBelowFirst}
use Rattle.distinct_names.specs.Names.{NamesDiffer, NamesOfItemsDiffer, MembersDiffer}
use Rattle.schema_laws.specs.Laws.{SmallNamesDiffer}

below_next : (j l : List ℕ) (ms : Members) → slice_cmp nat_cmp j l ≡ Less → IsBelowFirst l ms → IsBelowFirst j ms
below_next j l no_members b h = tt
below_next j l (member m v ms) b h = nat_list_cmp_total.trans j l m b h

not_among : (k : List ℕ) (ms : Members) → IsBelowFirst k ms → MembersSmall ms → has_name k ms ≡ false
not_among k no_members b h = refl
not_among k (member l v ms) b h =
    let differ : bytes_eq k l ≡ false = sym (is_eq-slice_cmp k l) ∙ ap is_eq b in
    let rest = not_among k ms (below_next k l ms b h.2) h.3 in
    λ i. differ i || rest i

mutual
  differ : (v : Value) → IsSmall v → NamesDiffer v
  differ null h = tt
  differ (value.boolean b) h = tt
  differ (number z) h = tt
  differ fraction h = tt
  differ (text s) h = tt
  differ (list xs) h = items_differ xs h
  differ (value.object ms) h = members_differ ms h

  items_differ : (vs : Items) → AllSmall vs → NamesOfItemsDiffer vs
  items_differ no_items h = tt
  items_differ (item v vs) h = (differ v h.0, items_differ vs h.1)

  members_differ : (ms : Members) → MembersSmall ms → MembersDiffer ms
  members_differ no_members h = tt
  members_differ (member k v ms) h = (not_among k ms h.2 h.3, differ v h.1, members_differ ms h.3)

pub small_names_differ : SmallNamesDiffer
small_names_differ v h = differ v h
