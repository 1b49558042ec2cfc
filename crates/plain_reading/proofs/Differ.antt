-- In what is read from a text the names of an object differ, as they rise.
use Rattle.std.proofs.Common.{◌≡◌, ℕ, List, false, ◌||◌, Option, Some, None, Ordering, Less, Equal, Greater, refl, sym, ap, ◌∙◌, subst, bytes_eq}
use Rattle.std.specs.Prelude.{option_and_then, option_map}
use Rattle.std.specs.Ordering.{nat_cmp, is_eq, match_ordering, ordering_reverse}
use Rattle.std.specs.Cmp.Lexicographic.{slice_cmp}
use Rattle.std.proofs.lemmas.Cmp.{nat_list_cmp_total}
use Rattle.std.proofs.lemmas.Map.Text.{is_eq-slice_cmp}
use Rattle.json.specs.Json as json
use Rattle.json.specs.Lex.{tokens}
use Rattle.serde_json.specs.Data as data'
use Rattle.serde_json.specs.Data.{Num, Data, null, boolean, number, string, array, object, Items, no_items, item, Members, no_members, member, put}
use Rattle.serde_json.specs.Read.{number_of, of_json, of_items, of_members, max_depth, read}
use Rattle.json_value.specs.Value.{has_name}
use Rattle.json_value.specs.View.{value_of, items_of, members_of}
use Rattle.distinct_names.specs.Names.{NamesDiffer, NamesOfItemsDiffer, MembersDiffer}
use Rattle.schema_laws.proofs.Options.{IfThere, mapped, followed}
use Rattle.schema_laws.proofs.Leads.{anything}
use Rattle.plain_reading.specs.Laws.{TextNamesDiffer}

abbrev IsBelow : List ℕ → Members → Type 0
IsBelow k no_members = Unit {0}
IsBelow k (member l d ms) = slice_cmp nat_cmp k l ≡ Less

abbrev mutual
  Rises : Data → Type 0
  Rises (array ds) = ItemsRise ds
  Rises (object ms) = MembersRise ms
  Rises _ = Unit {0}

  ItemsRise : Items → Type 0
  ItemsRise no_items = Unit {0}
  ItemsRise (item d ds) = Rises d × ItemsRise ds

  MembersRise : Members → Type 0
  MembersRise no_members = Unit {0}
  MembersRise (member k d ms) = IsBelow k ms × Rises d × MembersRise ms

-- ---- members that are put one after another

below-put : (l k : List ℕ) (d : Data) (ms : Members) → IsBelow l ms → slice_cmp nat_cmp l k ≡ Less → IsBelow l (put k d ms)
below-put l k d no_members b c = c
below-put l k d (member j e ms) b c = by (slice_cmp nat_cmp k j)
  where
    by : (o : Ordering) → IsBelow l (match_ordering o (member k d (member j e ms)) (member j d ms) (member j e (put k d ms)))
    by Less = c
    by Equal = b
    by Greater = b

put-rises : (k : List ℕ) (d : Data) (ms : Members) → Rises d → MembersRise ms → MembersRise (put k d ms)
put-rises k d no_members h g = (tt, h, tt)
put-rises k d (member l e ms) h g = by (slice_cmp nat_cmp k l) refl (put-rises k d ms h g.2)
  where
    by : (o : Ordering) → slice_cmp nat_cmp k l ≡ o → MembersRise (put k d ms) → MembersRise (match_ordering o (member k d (member l e ms)) (member l d ms) (member l e (put k d ms)))
    by Less c r = (c, h, g)
    by Equal c r = (g.0, h, g.2)
    by Greater c r = (below-put l k d ms g.0 (nat_list_cmp_total.antisymm l k ∙ ap ordering_reverse c), g.1, r)

-- ---- what is read

mutual
  read-rises : (j : json.Json) → IfThere Rises (of_json j)
  read-rises json.null = tt
  read-rises (json.boolean b) = tt
  read-rises (json.number s) = mapped (λ (n : Num). Unit {0}) Rises number (number_of s) (anything (number_of s)) (λ n u. tt)
  read-rises (json.string s) = tt
  read-rises (json.array js) = mapped ItemsRise Rises array (of_items js) (items-rise js) (λ ds h. h)
  read-rises (json.object ms) = mapped MembersRise Rises object (of_members ms no_members) (members-rise ms no_members tt) (λ ms h. h)

  items-rise : (js : json.Items) → IfThere ItemsRise (of_items js)
  items-rise json.no_items = tt
  items-rise (json.item j js) =
      followed Rises ItemsRise (λ d. option_map (item d) (of_items js)) (of_json j) (read-rises j) (λ d h. mapped ItemsRise ItemsRise (item d) (of_items js) (items-rise js) (λ ds g. (h, g)))

  members-rise : (ms : json.Members) (found : Members) → MembersRise found → IfThere MembersRise (of_members ms found)
  members-rise json.no_members found h = h
  members-rise (json.member k j ms) found h =
      followed Rises MembersRise (λ d. of_members ms (put k d found)) (of_json j) (read-rises j) (λ d g. members-rise ms (put k d found) (put-rises k d found g h))

-- ---- names that rise differ

below-next : (j l : List ℕ) (ms : Members) → slice_cmp nat_cmp j l ≡ Less → IsBelow l ms → IsBelow j ms
below-next j l no_members b h = tt
below-next j l (member m d ms) b h = nat_list_cmp_total.trans j l m b h

not-among : (k : List ℕ) (ms : Members) → IsBelow k ms → MembersRise ms → has_name k (members_of ms) ≡ false
not-among k no_members b h = refl
not-among k (member l d ms) b h =
    let other : bytes_eq k l ≡ false = sym (is_eq-slice_cmp k l) ∙ ap is_eq b in
    let rest = not-among k ms (below-next k l ms b h.0) h.2 in
    λ i. other i || rest i

mutual
  differ : (d : Data) → Rises d → NamesDiffer (value_of d)
  differ null h = tt
  differ (boolean b) h = tt
  differ (number (data'.unsigned n)) h = tt
  differ (number (data'.negative z)) h = tt
  differ (number (data'.float x)) h = tt
  differ (string s) h = tt
  differ (array ds) h = items-differ ds h
  differ (object ms) h = members-differ ms h

  items-differ : (ds : Items) → ItemsRise ds → NamesOfItemsDiffer (items_of ds)
  items-differ no_items h = tt
  items-differ (item d ds) h = (differ d h.0, items-differ ds h.1)

  members-differ : (ms : Members) → MembersRise ms → MembersDiffer (members_of ms)
  members-differ no_members h = tt
  members-differ (member k d ms) h = (not-among k ms h.0 h.2, differ d h.1, members-differ ms h.2)

pub text_names_differ : TextNamesDiffer
text_names_differ bytes d e =
    let o : Option json.Json = option_and_then (λ p. json.if_last p.0 p.1) (json.value max_depth (tokens bytes)) in
    differ d (subst (IfThere Rises) e (followed (λ (j : json.Json). Unit {0}) Rises of_json o (anything o) (λ j u. read-rises j)))
