-- What is told of an outcome that meets what is wanted admits that, up to its notes.
use Rattle.std.proofs.Common.{◌≡◌, List, [], ◌∷◌, map, Bool, true, false, ◌||◌, ◌&&◌, not, refl, sym, ap, ◌∙◌, subst}
use Rattle.std.specs.List.{list_any, list_all}
use Rattle.json_value.specs.Value.{Value}
use Rattle.schema_defs.specs.Location.{Location}
use Rattle.schema_defs.specs.Texts.{Relations}
use Rattle.schema_defs.specs.Schema.{Schema, boolean, object, Same, no_same, same_value, Lists, no_lists, lists, Named, no_named, named, MaybeSchema, no_schema, the_schema, MaybeSchemas, no_list, the_list, Schemas, no_more, schema, schema_list, Places, no_items, each_item, by_place, Properties, no_properties, property, Document}
use Rattle.schema_defs.specs.Admits.{admits}
use Rattle.schema_defs.specs.Mapped.{mapped, mapped_same, mapped_lists, mapped_named, mapped_maybe, mapped_list, mapped_all, mapped_places, mapped_properties, unwalked}
use Rattle.enum_defs.proofs.Tests.{impossible}
use Rattle.merge_defs.specs.Outcome.{Way, narrowed, widened, same_way, Note, has_way, Outcome, fault, never, answer, depth, unsupported}
use Rattle.merge_defs.specs.Members.{only_same}
use Rattle.merge_walks.specs.Told.{Merged, Told, refused, told, note_at, told_at, unmark, place_of, place_of_first}
use Rattle.merge_walks.specs.Walked.{less_by_walks, merge_by_walks, with_by_walks}
use Rattle.merge_laws.specs.Laws.{Meets, IsProper}
use Rattle.walk_laws.proofs.Theorem.{merges_by_walks_are_meets}
use Rattle.walk_laws.proofs.Unwalked.{same-admits, same-proper}
use Rattle.schema_merge.specs.Ordered.{ordered, ordered_notes}
use Rattle.told_laws.specs.Laws.{Agrees, TellsAdmission, CallsAdmit, TellsInOrder, ToldNotesAreOrdered}
use Rattle.told_laws.proofs.Noted.{any-ordered, PlacedRise, placed-rise}

-- ---- marks stand in walks

mutual
  without : (s : Schema) → mapped unwalked (mapped unmark s) ≡ mapped unwalked s
  without (boolean b) = refl
  without (object p ss ls ns) = λ i. object (unwalked p) (without_same ss i) (without_lists ls i) (without_named ns i)

  without_same : (ss : Same) → mapped_same unwalked (mapped_same unmark ss) ≡ mapped_same unwalked ss
  without_same no_same = refl
  without_same (same_value all any one none c) = λ i. same_value (without_list all i) (without_list any i) (without_list one i) (without_maybe none i) c

  without_lists : (ls : Lists) → mapped_lists unwalked (mapped_lists unmark ls) ≡ mapped_lists unwalked ls
  without_lists no_lists = refl
  without_lists (lists p x a c) = λ i. lists (without_places p i) (without_maybe x i) (without_maybe a i) c

  without_named : (ns : Named) → mapped_named unwalked (mapped_named unmark ns) ≡ mapped_named unwalked ns
  without_named no_named = refl
  without_named (named ps pp x xn c) = λ i. named (without_properties ps i) (without_properties pp i) (without_maybe x i) (without_maybe xn i) c

  without_maybe : (m : MaybeSchema) → mapped_maybe unwalked (mapped_maybe unmark m) ≡ mapped_maybe unwalked m
  without_maybe no_schema = refl
  without_maybe (the_schema s) = ap the_schema (without s)

  without_list : (m : MaybeSchemas) → mapped_list unwalked (mapped_list unmark m) ≡ mapped_list unwalked m
  without_list no_list = refl
  without_list (the_list ss) = ap the_list (without_all ss)

  without_all : (ss : Schemas) → mapped_all unwalked (mapped_all unmark ss) ≡ mapped_all unwalked ss
  without_all no_more = refl
  without_all (schema s ss) = λ i. schema (without s i) (without_all ss i)

  without_places : (p : Places) → mapped_places unwalked (mapped_places unmark p) ≡ mapped_places unwalked p
  without_places no_items = refl
  without_places (each_item s) = ap each_item (without s)
  without_places (by_place ss) = ap by_place (without_all ss)

  without_properties : (ps : Properties) → mapped_properties unwalked (mapped_properties unmark ps) ≡ mapped_properties unwalked ps
  without_properties no_properties = refl
  without_properties (property n s ps) = λ i. property n (without s i) (without_properties ps i)

-- ---- what is told of one outcome

placed : (w : Way) (l : Location) (ns : List Note) → list_any (λ n. same_way w n.way) (map (note_at l) ns) ≡ has_way w ns
placed w l [] = refl
placed w l (n ∷ ns) = ap (λ b. same_way w n.way || b) (placed w l ns)

-- the ways that are told are those of the notes
ways : (w : Way) (l : Location) (ns : List Note) → list_any (λ n. same_way w n.way) (map (note_at l) (ordered_notes ns)) ≡ has_way w ns
ways w l ns = placed w l (ordered_notes ns) ∙ any-ordered (λ n. same_way w n.way) ns

abbrev merged_or : Merged → Told → Merged
merged_or m (refused f) = m
merged_or m (told n) = n

abbrev is_refused : Told → Bool
is_refused (refused f) = true
is_refused (told m) = false

module _ (r : Relations) (d : Document) (v : Value) (wanted : Bool) (l : Location) where
  tells : (o : Outcome Schema) → Meets IsProper wanted (admits r d v) o → TellsAdmission r d v wanted (told_at l (ordered o))
  tells (fault (depth w)) h m e = impossible (sym (ap is_refused e))
  tells (fault (unsupported u)) h m e = impossible (sym (ap is_refused e))
  tells (never ns) h m e =
      subst (Agrees r d v wanted) (ap (merged_or m) e)
      (record {
        proper = tt;
        enough = λ no k. absurd (h (sym (ways narrowed l ns) ∙ no) k);
        not_more = λ no k. impossible k;
      })
  tells (answer ns s) h m e =
      subst (Agrees r d v wanted) (ap (merged_or m) e)
      (record {
        proper = same-proper s (mapped unmark s) (without s) h.0;
        enough = λ no k. same-admits r d v (mapped unmark s) s (without s) ∙ h.1 (sym (ways narrowed l ns) ∙ no) k;
        not_more = λ no k. h.2 (sym (ways widened l ns) ∙ no) (sym (same-admits r d v (mapped unmark s) s (without s)) ∙ k);
      })

-- ---- in order

tells-in-order : (l : Location) (o : Outcome Schema) → TellsInOrder (told_at l (ordered o))
tells-in-order l (fault (depth w)) m e = impossible (sym (ap is_refused e))
tells-in-order l (fault (unsupported u)) m e = impossible (sym (ap is_refused e))
tells-in-order l (never ns) m e = subst (λ o. PlacedRise o.notes) (ap (merged_or m) e) (placed-rise l ns)
tells-in-order l (answer ns s) m e = subst (λ o. PlacedRise o.notes) (ap (merged_or m) e) (placed-rise l ns)

-- ---- the calls

pub told_notes_are_ordered : ToldNotesAreOrdered
told_notes_are_ordered d = record {
  gathers = λ most n ss. tells-in-order (place_of_first ss) (merge_by_walks d most n ss);
  with_all = λ most n b ss. tells-in-order (place_of b) (with_by_walks d most n b ss);
  leaves = λ most n a b. tells-in-order (place_of a) (less_by_walks d most n a b);
}

pub calls_admit : CallsAdmit
calls_admit r lawful d guarded proper v h =
    let meets = merges_by_walks_are_meets r lawful d guarded proper v h in
    record {
      gathers = λ most n ss p. tells r d v (list_all (admits r d v) (schema_list ss)) (place_of_first ss) (merge_by_walks d most n ss) (meets.gathers most n ss p);
      with_all = λ most n b ss p q. tells r d v (admits r d v b && admits r d v (only_same ss)) (place_of b) (with_by_walks d most n b ss) (meets.with_all most n b ss p q);
      leaves = λ most n a b p q. tells r d v (admits r d v a && not (admits r d v b)) (place_of a) (less_by_walks d most n a b) (meets.leaves most n a b p q);
    }
