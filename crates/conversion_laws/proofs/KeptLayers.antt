-- Merges keep what holds throughout, where those of the parts do.
use Rattle.std.proofs.Common.{◌≡◌, ℕ, List, [], ◌∷◌, ◌++◌, Bool, true, false, ◌||◌, Option, Some, None, refl, bytes_eq}
use Rattle.std.specs.Prelude.{not, nat_le, filter, if◌then◌else◌}
use Rattle.json_value.specs.Value.{Value, null}
use Rattle.schema_defs.specs.Layer.{is_listed}
use Rattle.schema_defs.specs.declared.InstanceType.TheVariants.{Object, Array, Text, Integer}
use Rattle.schema_defs.specs.Schema.{Types, Numbers, Texts, Plain, Schema, boolean, object, Same, no_same, same_value, Lists, no_lists, Named, no_named, MaybeSchema, no_schema, the_schema, MaybeSchemas, no_list, the_list, Schemas, no_more, schema, schema_list, schemas, Document}
use Rattle.schema_defs.specs.Admits.{target, counts_as_absent}
use Rattle.schema_defs.proofs.Spare.{Given}
use Rattle.enum_defs.specs.Exclusive.{exclusive}
use Rattle.merge_defs.specs.Outcome.{Outcome, fault, never, answer, unsupported, subtracting, conditional, any_one, pattern_names, Note, widened, note_if, less_than, more_than, of_members, both_ways, of_subtract, has_way, noted, and_then, mapped, where_both}
use Rattle.merge_defs.specs.Alike.{roughly}
use Rattle.merge_defs.specs.Leaves.{two_types, two_formats, two_numbers, two_texts, two_lists, values_of, is_only}
use Rattle.merge_defs.specs.Arrays.{two_lists_parts}
use Rattle.merge_defs.specs.Objects.{no_plain, unless_mixed, names_mix, two_named}
use Rattle.merge_defs.specs.Members.{as_body, as_member, joined, Left, Fate, out, left, Kept, negations, joint, loses, stands_for, fate, with_fate, fates, any_of, one_of, gathered, left_schemas, any_narrows, one_narrows, one_mixes, one_forgets, finish_any, finish_one, stand_both, refused, with_each, with_all, without, with_any, with_one, with_same, lost_sizes}
use Rattle.merge_defs.specs.Less.{left_values, less_values, less_named, turned_outcome, merge_from, merge_schemas, less_each, less_merged, less_any, less_not, less_all, less_same, subschema_count, is_conditional}
use Rattle.merge_defs.specs.Merge.{drops_siblings, reference_to, stands_for_target, target_merged, tidied, body, two_objects, with_subschemas_layer, by_references, is_exact, less_object, less_layer}
use Rattle.merge_walks.specs.Carried.{Walk, lists_inside, named_inside}
use Rattle.merge_walks.specs.Made.{settled_named}
use Rattle.conversion_laws.specs.Keeping.{Always}
use Rattle.conversion_laws.specs.Keeping.{Throughout, ThroughoutSame, ThroughoutList, ThroughoutMaybe, ThroughoutAll}
use Rattle.conversion_laws.proofs.Always.{always-noted, always-then, always-mapped, always-if, always-any}

module _ (d : Document) (Reference : List ℕ → Type 0) (OfLists : Lists → Type 0) (OfNamed : Named → Type 0) where
  abbrev pub H : Schema → Type 0
  H = Throughout Reference OfLists OfNamed

  abbrev pub HAll : Schemas → Type 0
  HAll = ThroughoutAll Reference OfLists OfNamed

  abbrev pub HSame : Same → Type 0
  HSame = ThroughoutSame Reference OfLists OfNamed

  abbrev pub HList : MaybeSchemas → Type 0
  HList = ThroughoutList Reference OfLists OfNamed

  abbrev pub HMaybe : MaybeSchema → Type 0
  HMaybe = ThroughoutMaybe Reference OfLists OfNamed

  abbrev pub Keeps : (Schema → Schema → Outcome Schema) → Type 0
  Keeps f = (a b : Schema) → H a → H b → Always H (f a b)

  -- what keywords keep
  pub record IsKept : Type 0 where
    pub of_target : (q : List ℕ) (t : Schema) → Reference q → target d q ≡ Some t → H t
    pub of_no_lists : OfLists no_lists
    pub of_no_named : OfNamed no_named
    pub of_two_lists : (join' : Schema → Schema → Outcome Schema) → Keeps join' → (array : Bool) (ls ms : Lists) → OfLists ls → OfLists ms → Always OfLists (two_lists_parts join' array ls ms)
    pub of_two_named : (join' : Schema → Schema → Outcome Schema) → Keeps join' → (nulls object_type : Bool) (ns os : Named) → OfNamed ns → OfNamed os → Always OfNamed (two_named join' nulls object_type ns os)
    pub of_less_named : (less' : Schema → Schema → Outcome Schema) → Keeps less' → (ns os : Named) → OfNamed ns → OfNamed os → Always OfNamed (less_named less' ns os)
    pub of_lists_inside : (w : Walk) (ls : Lists) → OfLists ls → OfLists (lists_inside w ls)
    pub of_named_inside : (w : Walk) (ns : Named) → OfNamed ns → OfNamed (named_inside w ns)
    pub of_settled_named : (w : Walk) (ns : Named) → OfNamed ns → OfNamed (settled_named w ns)

  abbrev Each : List Schema → Type 0
  Each [] = Unit {0}
  Each (s ∷ ss) = H s × Each ss

  each-listed : (ss : Schemas) → HAll ss → Each (schema_list ss)
  each-listed no_more h = tt
  each-listed (schema s ss) h = (h.0, each-listed ss h.1)

  each-schemas : (ss : List Schema) → Each ss → HAll (schemas ss)
  each-schemas [] h = tt
  each-schemas (s ∷ ss) h = (h.0, each-schemas ss h.1)

  each-both : (ss ts : List Schema) → Each ss → Each ts → Each (ss ++ ts)
  each-both [] ts h g = g
  each-both (s ∷ ss) ts h g = (h.0, each-both ss ts h.1 g)

  tidied-holds : (s : Schema) → H s → H (tidied s)
  tidied-holds (boolean b) h = h
  tidied-holds (object p ss ls ns) h = h

  module _ (kept : IsKept) where
    -- ---- fates of members

    abbrev FateHolds : Fate → Type 0
    FateHolds (out b) = Unit {0}
    FateHolds (left l) = H l.schema

    abbrev LeftHold : List Left → Type 0
    LeftHold [] = Unit {0}
    LeftHold (l ∷ ls) = H l.schema × LeftHold ls

    each-negated : (ss : List Schema) → Each ss → Each (negations ss)
    each-negated [] h = tt
    each-negated (s ∷ ss) h = ((tt, kept.of_no_lists, kept.of_no_named, (tt, tt, tt, h.0)), each-negated ss h.1)

    joint-holds : (b m : Schema) (others : List Schema) → H b → H m → Each others → H (joint b m others)
    joint-holds b m others x y h = (tt, kept.of_no_lists, kept.of_no_named, (each-schemas (b ∷ m ∷ negations others) (x, (y, each-negated others h)), tt, tt, tt))

    fate-holds : (b m : Schema) (others : List Schema) → H b → H m → Each others → (o : Outcome Schema) → Always FateHolds (fate b m others o)
    fate-holds b m others x y h (fault f) = tt
    fate-holds b m others x y h (never ns) = tt
    fate-holds b m others x y h (answer ns merge) =
        always-if FateHolds (roughly merge b) (stands_for as_body b merge ns) (if roughly merge m then stands_for as_member m merge ns else answer ns (left (record { how = joined; wider = has_way widened ns; schema = joint b m others }))) x
        (always-if FateHolds (roughly merge m) (stands_for as_member m merge ns) (answer ns (left (record { how = joined; wider = has_way widened ns; schema = joint b m others }))) y (joint-holds b m others x y h))

    with-fate : (f : Fate) (k : Kept) → FateHolds f → LeftHold k.members → LeftHold (with_fate f k).members
    with-fate (out b) k x y = y
    with-fate (left l) k x y = (x, y)

    left-hold : (ls : List Left) → LeftHold ls → Each (left_schemas ls)
    left-hold [] h = tt
    left-hold (l ∷ ls) h = (h.0, left-hold ls h.1)

    any-holds : (ss : List Schema) → Each ss → Always H (gathered any_of ss)
    any-holds [] h = tt
    any-holds (s ∷ []) h = h.0
    any-holds (s ∷ t ∷ ss) h = (tt, kept.of_no_lists, kept.of_no_named, (tt, each-schemas (s ∷ t ∷ ss) h, tt, tt))

    one-holds : (ss : List Schema) → Each ss → Always H (gathered one_of ss)
    one-holds [] h = tt
    one-holds (s ∷ []) h = h.0
    one-holds (s ∷ t ∷ ss) h = (tt, kept.of_no_lists, kept.of_no_named, (tt, tt, each-schemas (s ∷ t ∷ ss) h, tt))

    finish-any : (apart : Bool) (k : Kept) → LeftHold k.members → Always H (finish_any apart k)
    finish-any apart k h = always-noted H (note_if (any_narrows apart k) (less_than of_members ∷ [])) (gathered any_of (left_schemas k.members)) (any-holds (left_schemas k.members) (left-hold k.members h))

    finish-one : (apart : Bool) (k : Kept) → LeftHold k.members → Always H (finish_one apart k)
    finish-one apart k h =
        always-noted H (note_if (one_narrows k) (less_than of_members ∷ [])) (noted (note_if (one_mixes apart k || one_forgets apart k) (more_than of_members ∷ [])) (gathered one_of (left_schemas k.members)))
        (always-noted H (note_if (one_mixes apart k || one_forgets apart k) (more_than of_members ∷ [])) (gathered one_of (left_schemas k.members)) (one-holds (left_schemas k.members) (left-hold k.members h)))

    module _ (join' less' : Schema → Schema → Outcome Schema) (joins : Keeps join') (leaves : Keeps less') where
      fates-hold : (b : Schema) (before after : List Schema) → H b → Each before → Each after → Always (λ k. LeftHold k.members) (fates join' b before after)
      fates-hold b before [] x h g = tt
      fates-hold b before (m ∷ ms) x h g =
          always-then FateHolds (λ k. LeftHold k.members) (fate b m (before ++ ms) (join' b m)) (λ f. mapped (with_fate f) (fates join' b (before ++ (m ∷ [])) ms))
          (fate-holds b m (before ++ ms) x g.0 (each-both before ms h g.1) (join' b m))
          (λ f y. always-mapped (λ k. LeftHold k.members) (λ k. LeftHold k.members) (with_fate f) (fates join' b (before ++ (m ∷ [])) ms)
          (fates-hold b (before ++ (m ∷ [])) ms x (each-both before (m ∷ []) h (g.0, tt)) g.1) (λ k z. with-fate f k y z))

      -- ---- the subschemas of a side

      with-each : (ss : Schemas) (b : Schema) → HAll ss → H b → Always H (with_each d join' less' ss b)
      with-each no_more b h x = x
      with-each (schema s ss) b h x = always-then H H (join' b s) (with_each d join' less' ss) (joins b s x h.0) (λ c y. with-each ss c h.1 y)

      with-all : (all : MaybeSchemas) (b : Schema) → HList all → H b → Always H (with_all d join' less' all b)
      with-all no_list b h x = x
      with-all (the_list ss) b h x = with-each ss b h x

      without-holds : (none : MaybeSchema) (b : Schema) → HMaybe none → H b → Always H (without d join' less' none b)
      without-holds no_schema b h x = x
      without-holds (the_schema s) b h x = leaves b s x h

      with-any : (any : MaybeSchemas) (b : Schema) → HList any → H b → Always H (with_any d join' less' any b)
      with-any no_list b h x = x
      with-any (the_list ss) b h x = always-then (λ k. LeftHold k.members) H (fates join' b [] (schema_list ss)) (finish_any (exclusive d (schema_list ss))) (fates-hold b [] (schema_list ss) x tt (each-listed ss h)) (λ k y. finish-any (exclusive d (schema_list ss)) k y)

      with-one : (one : MaybeSchemas) (b : Schema) → HList one → H b → Always H (with_one d join' less' one b)
      with-one no_list b h x = x
      with-one (the_list ss) b h x = always-then (λ k. LeftHold k.members) H (fates join' b [] (schema_list ss)) (finish_one (exclusive d (schema_list ss))) (fates-hold b [] (schema_list ss) x tt (each-listed ss h)) (λ k y. finish-one (exclusive d (schema_list ss)) k y)

      with-same : (ss : Same) (b : Schema) → HSame ss → H b → Always H (with_same d join' less' ss b)
      with-same no_same b h x = x
      with-same (same_value all any one none c) b h x =
          always-then H H (with_all d join' less' all b) (λ b. and_then (without d join' less' none b) (λ b'. and_then (with_any d join' less' any b') (with_one d join' less' one))) (with-all all b h.0 x)
          (λ b y. always-then H H (without d join' less' none b) (λ b'. and_then (with_any d join' less' any b') (with_one d join' less' one)) (without-holds none b h.3 y)
          (λ b' z. always-then H H (with_any d join' less' any b') (with_one d join' less' one) (with-any any b' h.1 z) (λ c u. with-one one c h.2 u)))

      refused-holds : (ss : Same) (o : Outcome Schema) → Always H o → Always H (refused ss o)
      refused-holds no_same o h = h
      refused-holds (same_value all any one none c) o h =
          always-if H c (fault (unsupported conditional)) (if stand_both any one then fault (unsupported any_one) else o) tt (always-if H (stand_both any one) (fault (unsupported any_one)) o tt h)

      -- ---- objects

      body-holds : (p : Plain) (ls : Lists) (ns : Named) (q : Plain) (ms : Lists) (os : Named) → OfLists ls → OfNamed ns → OfLists ms → OfNamed os → Always H (body d join' less' p ls ns q ms os)
      body-holds p ls ns q ms os hl hn hm ho =
          always-then (λ t. Unit {0}) H (where_both two_types p.types q.types) k1 (always-any (where_both two_types p.types q.types)) (λ t _.
          always-then (λ f. Unit {0}) H (where_both two_formats p.format q.format) (k2 t) (always-any (where_both two_formats p.format q.format)) (λ f _.
          always-then (λ n. Unit {0}) H (where_both (two_numbers (is_only Integer t)) p.numbers q.numbers) (k3 t f) (always-any (where_both (two_numbers (is_only Integer t)) p.numbers q.numbers)) (λ n _.
          always-then (λ x. Unit {0}) H (where_both (two_texts (is_only Text t)) p.texts q.texts) (k4 t f n) (always-any (where_both (two_texts (is_only Text t)) p.texts q.texts)) (λ x _.
          always-then OfLists H (two_lists_parts join' (is_only Array t) ls ms) (k5 t f n x) (kept.of_two_lists join' joins (is_only Array t) ls ms hl hm) (λ l z.
          always-then OfNamed H (two_named join' (counts_as_absent d.setting null) (is_only Object t) ns os) (k6 t f n x l) (kept.of_two_named join' joins (counts_as_absent d.setting null) (is_only Object t) ns os hn ho) (λ m y.
          always-mapped (λ vs. Unit {0}) H (made t f n x l m) (where_both two_lists (values_of p) (values_of q)) (always-any (where_both two_lists (values_of p) (values_of q))) (λ vs _. (tt, z, y, tt))))))))
        where
          made : Option Types → Option (List ℕ) → Option Numbers → Option Texts → Lists → Named → Option (List Value) → Schema
          made t f n x l m values = object (record no_plain { types = t; format = f; numbers = n; texts = x; enum_values = values }) no_same l m

          k6 : Option Types → Option (List ℕ) → Option Numbers → Option Texts → Lists → Named → Outcome Schema
          k6 t f n x l m = mapped (made t f n x l m) (where_both two_lists (values_of p) (values_of q))

          k5 : Option Types → Option (List ℕ) → Option Numbers → Option Texts → Lists → Outcome Schema
          k5 t f n x l = and_then (two_named join' (counts_as_absent d.setting null) (is_only Object t) ns os) (k6 t f n x l)

          k4 : Option Types → Option (List ℕ) → Option Numbers → Option Texts → Outcome Schema
          k4 t f n x = and_then (two_lists_parts join' (is_only Array t) ls ms) (k5 t f n x)

          k3 : Option Types → Option (List ℕ) → Option Numbers → Outcome Schema
          k3 t f n = and_then (where_both (two_texts (is_only Text t)) p.texts q.texts) (k4 t f n)

          k2 : Option Types → Option (List ℕ) → Outcome Schema
          k2 t f = and_then (where_both (two_numbers (is_only Integer t)) p.numbers q.numbers) (k3 t f)

          k1 : Option Types → Outcome Schema
          k1 t = and_then (where_both two_formats p.format q.format) (k2 t)

      objects-hold : (p : Plain) (ss : Same) (ls : Lists) (ns : Named) (q : Plain) (tt' : Same) (ms : Lists) (os : Named) → H (object p ss ls ns) → H (object q tt' ms os) → Always H (two_objects d join' less' p ss ls ns q tt' ms os)
      objects-hold p ss ls ns q tt' ms os h g =
          refused-holds ss (refused tt' (unless_mixed (names_mix ns os) whole))
          (refused-holds tt' (unless_mixed (names_mix ns os) whole)
          (always-if H (names_mix ns os) (fault (unsupported pattern_names)) whole tt
          (always-then H H (body d join' less' p ls ns q ms os) first (body-holds p ls ns q ms os h.1 h.2 g.1 g.2)
          (λ b x. always-then H H (with_same d join' less' ss b) last (with-same ss b h.3 x)
          (λ b' y. always-mapped H H tidied (with_same d join' less' tt' b') (with-same tt' b' g.3 y) tidied-holds)))))
        where
          last : Schema → Outcome Schema
          last b' = mapped tidied (with_same d join' less' tt' b')

          first : Schema → Outcome Schema
          first b = and_then (with_same d join' less' ss b) last

          whole : Outcome Schema
          whole = and_then (body d join' less' p ls ns q ms os) first

      pub with-subschemas : (b : Schema) (ss : Same) → H b → HSame ss → Always H (with_subschemas_layer d join' less' b ss)
      with-subschemas b ss x h = refused-holds ss (mapped tidied (with_same d join' less' ss b)) (always-mapped H H tidied (with_same d join' less' ss b) (with-same ss b h x) tidied-holds)

      reference-holds : (q : List ℕ) → Reference q → H (reference_to q)
      reference-holds q h = (h, kept.of_no_lists, kept.of_no_named, tt)

      target-holds : (q : List ℕ) → Reference q → (o : Option Schema) → target d q ≡ o → (b : Schema) → H b → Always H (target_merged q o (λ t. join' t b))
      target-holds q h None e b x = tt
      target-holds q h (Some t) e b x =
          always-then H H (join' t b) (stands_for_target q t) (joins t b (kept.of_target q t h e) x)
          (λ m y. always-if H (roughly m t) (answer (lost_sizes (loses m t)) (reference_to q)) (answer [] m) (reference-holds q h) y)

      pub references-hold : (p : Plain) (ss : Same) (ls : Lists) (ns : Named) (q : Plain) (tt' : Same) (ms : Lists) (os : Named) → H (object p ss ls ns) → H (object q tt' ms os)
          → (f g : Option (List ℕ)) → Given Reference f → Given Reference g → Always H (by_references d join' less' p ss ls ns q tt' ms os f g)
      references-hold p ss ls ns q tt' ms os x y None None f g = objects-hold p ss ls ns q tt' ms os x y
      references-hold p ss ls ns q tt' ms os x y None (Some n) f g = always-noted H (lost_sizes (drops_siblings q tt' ms os)) (target_merged n (target d n) (λ t. join' t (object p ss ls ns))) (target-holds n g (target d n) refl (object p ss ls ns) x)
      references-hold p ss ls ns q tt' ms os x y (Some m) None f g = always-noted H (lost_sizes (drops_siblings p ss ls ns)) (target_merged m (target d m) (λ t. join' t (object q tt' ms os))) (target-holds m f (target d m) refl (object q tt' ms os) y)
      references-hold p ss ls ns q tt' ms os x y (Some m) (Some n) f g =
          always-if H (bytes_eq m n) (answer (lost_sizes (drops_siblings p ss ls ns || drops_siblings q tt' ms os)) (reference_to m)) (noted (lost_sizes (drops_siblings p ss ls ns)) (target_merged m (target d m) (λ t. join' t (object q tt' ms os))))
          (reference-holds m f) (always-noted H (lost_sizes (drops_siblings p ss ls ns)) (target_merged m (target d m) (λ t. join' t (object q tt' ms os))) (target-holds m f (target d m) refl (object q tt' ms os) y))

      -- ---- several, and what is taken away

      merge-from : (ss : Schemas) (s : Schema) → HAll ss → H s → Always H (merge_from join' less' s ss)
      merge-from no_more s h x = x
      merge-from (schema t ts) s h x = always-then H H (join' s t) (λ m. merge_from join' less' m ts) (joins s t x h.0) (λ m y. merge-from ts m h.1 y)

      pub several : (ss : Schemas) → HAll ss → Always H (merge_schemas join' less' ss)
      several no_more h = tt
      several (schema s ss) h = merge-from ss s h.1 h.0

      less-each : (ss : Schemas) (s : Schema) → HAll ss → H s → Always H (less_each join' less' ss s)
      less-each no_more s h x = x
      less-each (schema t ts) s h x = always-then H H (less' s t) (less_each join' less' ts) (leaves s t x h.0) (λ c y. less-each ts c h.1 y)

      turned-holds : (o : Outcome Schema) → Always H o → Always H (turned_outcome o)
      turned-holds (fault f) h = tt
      turned-holds (never ns) h = tt
      turned-holds (answer ns a) h = h

      less-merged : (s : Schema) (o : Outcome Schema) → H s → Always H o → Always H (less_merged join' less' s o)
      less-merged s (fault f) x h = tt
      less-merged s (never ns) x h = x
      less-merged s (answer ns m) x h = always-noted H ns (less' s m) (leaves s m x h)

      less-any : (any : MaybeSchemas) (s : Schema) → HList any → H s → Always H (less_any join' less' any s)
      less-any no_list s h x = x
      less-any (the_list ss) s h x = less-each ss s h x

      less-not : (none : MaybeSchema) (s : Schema) → HMaybe none → H s → Always H (less_not join' less' none s)
      less-not no_schema s h x = x
      less-not (the_schema t) s h x = joins s t x h

      less-all : (all : MaybeSchemas) (s : Schema) → HList all → H s → Always H (less_all join' less' all s)
      less-all no_list s h x = x
      less-all (the_list ss) s h x = less-merged s (turned_outcome (merge_schemas join' less' ss)) x (turned-holds (merge_schemas join' less' ss) (several ss h))

      less-same : (ss : Same) (s : Schema) → HSame ss → H s → Always H (less_same join' less' ss s)
      less-same no_same s h x = x
      less-same (same_value all any one none c) s h x =
          always-then H H (less_any join' less' any s) (λ t. and_then (less_not join' less' none t) (less_all join' less' all)) (less-any any s h.1 x)
          (λ t y. always-then H H (less_not join' less' none t) (less_all join' less' all) (less-not none t h.3 y) (λ u z. less-all all u h.0 z))

      -- what is left has the reference of what it is taken from
      values-left : (p : Plain) → Given Reference p.reference → (ms ns : Option (List Value)) → Always (λ q. Given Reference q.reference) (less_values p ms ns)
      values-left p h None ns = h
      values-left p h (Some vs) None = h
      values-left p h (Some vs) (Some ws) = by (filter (λ v. not (is_listed v ws)) vs)
        where
          by : (us : List Value) → Always (λ q. Given Reference q.reference) (left_values p us)
          by [] = tt
          by (u ∷ us) = h

      object-left : (p : Plain) (ss : Same) (ls : Lists) (ns : Named) (q : Plain) (tt' : Same) (ms : Lists) (os : Named) → H (object p ss ls ns) → H (object q tt' ms os) → Always H (less_object d join' less' p ss ls ns q tt' ms os)
      object-left p ss ls ns q tt' ms os h g =
          always-then (λ p'. Given Reference p'.reference) H (less_values p p.enum_values q.enum_values) (λ p'. and_then (less_named less' ns os) (λ ns'. less_same join' less' tt' (object p' ss ls ns'))) (values-left p h.0 p.enum_values q.enum_values)
          (λ p' r. always-then OfNamed H (less_named less' ns os) (λ ns'. less_same join' less' tt' (object p' ss ls ns')) (kept.of_less_named less' leaves ns os h.2 g.2)
          (λ ns' n. less-same tt' (object p' ss ls ns') g.3 (r, h.1, n, h.3)))

      pub less-holds : (a b : Schema) → H a → H b → Always H (less_layer d join' less' a b)
      less-holds a (boolean true) x y = tt
      less-holds a (boolean false) x y = x
      less-holds (boolean false) (object q tt' ms os) x y = tt
      less-holds (boolean true) (object q tt' ms os) x y = tt
      less-holds (object p ss ls ns) (object q tt' ms os) x y =
          always-if H (is_conditional ss || is_conditional tt') (fault (unsupported conditional)) (if nat_le 2 (subschema_count tt') then fault (unsupported subtracting) else rest) tt
          (always-if H (nat_le 2 (subschema_count tt')) (fault (unsupported subtracting)) rest tt (always-noted H notes (less_object d join' less' p ss ls ns q tt' ms os) (object-left p ss ls ns q tt' ms os x y)))
        where
          notes : List Note
          notes = note_if (not (is_exact d join' less' p ns (object p ss ls ns) q tt' ms os (object q tt' ms os))) (both_ways of_subtract)

          rest : Outcome Schema
          rest = noted notes (less_object d join' less' p ss ls ns q tt' ms os)
