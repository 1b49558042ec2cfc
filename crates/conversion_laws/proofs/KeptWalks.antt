-- Merges by walks keep what holds throughout: walks change no keyword.
use Rattle.std.proofs.Common.{ℕ, zero, suc, List, [], ◌∷◌, codes, Bool, true, false, Option, Some, None}
use Rattle.schema_defs.specs.Location.{Step, place}
use Rattle.schema_defs.specs.Schema.{Plain, Schema, boolean, object, Same, no_same, same_value, Lists, Named, MaybeSchema, no_schema, the_schema, MaybeSchemas, no_list, the_list, Schemas, no_more, schema, Document}
use Rattle.schema_defs.specs.Admits.{target_location}
use Rattle.schema_defs.proofs.Spare.{Given}
use Rattle.merge_defs.specs.Outcome.{Outcome, fault, depth, mapped}
use Rattle.merge_defs.specs.Merge.{by_references, with_subschemas_layer, less_layer}
use Rattle.merge_walks.specs.Carried.{Walk, made_on, own_walk, on_walk, to_target, has_more_steps, carried, maybe_inside, all_inside, list_inside, same_inside, opened, to_child}
use Rattle.merge_walks.specs.Made.{longer, longest_or, walks_of_same, if_walked, settled, settled_same, settled_named, settled_maybe, settled_list, settled_all, on_made}
use Rattle.merge_walks.specs.Walked.{walk_of, walk_left, unless_deep, join_target, join_objects, join_sides, left_side, walked_join, walked_less, walked_with, parts_within, join_by_walks, less_by_walks, merge_by_walks, with_by_walks}
use Rattle.conversion_laws.specs.Keeping.{Always}
use Rattle.conversion_laws.proofs.Always.{always-mapped}
use Rattle.conversion_laws.proofs.KeptLayers.{H, HAll, HSame, HList, HMaybe, Keeps, IsKept, with-subschemas, references-hold, several, less-holds}

module _ (d : Document) (Reference : List ℕ → Type 0) (OfLists : Lists → Type 0) (OfNamed : Named → Type 0) (kept : IsKept d Reference OfLists OfNamed) where
  abbrev Holds : Schema → Type 0
  Holds = H d Reference OfLists OfNamed

  abbrev HoldsAll : Schemas → Type 0
  HoldsAll = HAll d Reference OfLists OfNamed

  abbrev HoldsSame : Same → Type 0
  HoldsSame = HSame d Reference OfLists OfNamed

  abbrev HoldsList : MaybeSchemas → Type 0
  HoldsList = HList d Reference OfLists OfNamed

  abbrev HoldsMaybe : MaybeSchema → Type 0
  HoldsMaybe = HMaybe d Reference OfLists OfNamed

  abbrev Kept : (Schema → Schema → Outcome Schema) → Type 0
  Kept = Keeps d Reference OfLists OfNamed

  -- ---- walks of schemas

  pub on_walk-holds : (w : Walk) (s : Schema) → Holds s → Holds (on_walk w s)
  on_walk-holds w (boolean b) h = h
  on_walk-holds w (object p ss ls ns) h = h

  pub carried-holds : (w : Walk) (s : Schema) → Holds s → Holds (carried w s)
  carried-holds w (boolean b) h = h
  carried-holds w (object p ss ls ns) h = h

  all-inside : (w : Walk) (k : Step) (i : ℕ) (ss : Schemas) → HoldsAll ss → HoldsAll (all_inside w k i ss)
  all-inside w k i no_more h = tt
  all-inside w k i (schema s ss) h = (carried-holds (to_child w (k ∷ place i ∷ [])) s h.0, all-inside w k (suc i) ss h.1)

  list-inside : (w : Walk) (k : Step) (m : MaybeSchemas) → HoldsList m → HoldsList (list_inside w k m)
  list-inside w k no_list h = tt
  list-inside w k (the_list ss) h = all-inside w k 0 ss h

  maybe-inside : (w : Walk) (k : Step) (m : MaybeSchema) → HoldsMaybe m → HoldsMaybe (maybe_inside w k m)
  maybe-inside w k no_schema h = tt
  maybe-inside w k (the_schema s) h = carried-holds (to_child w (k ∷ [])) s h

  same-inside : (w : Walk) (ss : Same) → HoldsSame ss → HoldsSame (same_inside w ss)
  same-inside w no_same h = tt
  same-inside w (same_value all any one none c) h = (list-inside w (codes "allOf") all h.0, list-inside w (codes "anyOf") any h.1, list-inside w (codes "oneOf") one h.2, maybe-inside w (codes "not") none h.3)

  opened-holds : (s : Schema) → Holds s → Holds (opened s)
  opened-holds (boolean b) h = h
  opened-holds (object p ss ls ns) h = (h.0, kept.of_lists_inside (own_walk p) ls h.1, kept.of_named_inside (own_walk p) ns h.2, same-inside (own_walk p) ss h.3)

  if-walked : (o : Option Walk) (s t : Schema) → Holds s → Holds t → Holds (if_walked o s t)
  if-walked (Some w) s t h g = h
  if-walked None s t h g = g

  mutual
    settled-holds : (w : Walk) (s : Schema) → Holds s → Holds (settled w s)
    settled-holds w (boolean b) h = h
    settled-holds w (object p ss ls ns) h =
        if-walked p.walk (object p ss ls ns) (object (record p { walk = Some (made_on (longest_or w (walks_of_same (settled_same w ss)))) }) (settled_same w ss) ls (settled_named w ns)) h
        (h.0, h.1, kept.of_settled_named w ns h.2, same-settled w ss h.3)

    same-settled : (w : Walk) (ss : Same) → HoldsSame ss → HoldsSame (settled_same w ss)
    same-settled w no_same h = tt
    same-settled w (same_value all any one none c) h = (list-settled w all h.0, list-settled w any h.1, list-settled w one h.2, maybe-settled w none h.3)

    list-settled : (w : Walk) (m : MaybeSchemas) → HoldsList m → HoldsList (settled_list w m)
    list-settled w no_list h = tt
    list-settled w (the_list ss) h = all-settled w ss h

    maybe-settled : (w : Walk) (m : MaybeSchema) → HoldsMaybe m → HoldsMaybe (settled_maybe w m)
    maybe-settled w no_schema h = tt
    maybe-settled w (the_schema s) h = settled-holds w s h

    all-settled : (w : Walk) (ss : Schemas) → HoldsAll ss → HoldsAll (settled_all w ss)
    all-settled w no_more h = tt
    all-settled w (schema s ss) h = (settled-holds w s h.0, all-settled w ss h.1)

  settled-outcome : (w : Walk) (o : Outcome Schema) → Always Holds o → Always Holds (mapped (settled w) o)
  settled-outcome w o h = always-mapped Holds Holds (settled w) o h (λ s x. settled-holds w s x)

  -- ---- both sides

  unless-deep : (most : ℕ) (s : Schema) (k : Schema → Outcome Schema) → Always Holds (k (opened s)) → Always Holds (unless_deep most s k)
  unless-deep most s k h = cases (has_more_steps most (walk_of s))
    where
      cases : (b : Bool) → Always Holds (elim b [ true ↦ fault (depth (walk_of s)) | false ↦ k (opened s) ])
      cases true = tt
      cases false = h

  module _ (most : ℕ) (join' less' : Schema → Schema → Outcome Schema) (joins : Kept join') (leaves : Kept less') where
    on-made : (w : Walk) (f : Schema → Schema → Outcome Schema) → Kept f → Kept (on_made w f)
    on-made w f k a b x y = k (settled w a) (settled w b) (settled-holds w a x) (settled-holds w b y)

    on-target : (w : Walk) (q : List ℕ) → Kept (join_target d most join' less' w q)
    on-target w q a b x y = joins (on_walk (to_target w (target_location d q)) a) b (on_walk-holds (to_target w (target_location d q)) a x) y

    objects-walked : (p : Plain) (ss : Same) (ls : Lists) (ns : Named) (q : Plain) (tt' : Same) (ms : Lists) (os : Named) → Holds (object p ss ls ns) → Holds (object q tt' ms os)
        → (f g : Option (List ℕ)) → Given Reference f → Given Reference g → Always Holds (join_objects d most join' less' p ss ls ns q tt' ms os f g)
    objects-walked p ss ls ns q tt' ms os x y None None f g =
        settled-outcome (longer (own_walk p) (own_walk q)) (by_references d (on_made (longer (own_walk p) (own_walk q)) join') (on_made (longer (own_walk p) (own_walk q)) less') p ss ls ns q tt' ms os None None)
        (references-hold d Reference OfLists OfNamed kept (on_made (longer (own_walk p) (own_walk q)) join') (on_made (longer (own_walk p) (own_walk q)) less') (on-made (longer (own_walk p) (own_walk q)) join' joins) (on-made (longer (own_walk p) (own_walk q)) less' leaves)
        p ss ls ns q tt' ms os x y None None f g)
    objects-walked p ss ls ns q tt' ms os x y None (Some n) f g =
        settled-outcome (own_walk q) (by_references d (join_target d most join' less' (own_walk q) n) less' p ss ls ns q tt' ms os None (Some n))
        (references-hold d Reference OfLists OfNamed kept (join_target d most join' less' (own_walk q) n) less' (on-target (own_walk q) n) leaves p ss ls ns q tt' ms os x y None (Some n) f g)
    objects-walked p ss ls ns q tt' ms os x y (Some m) n f g =
        settled-outcome (own_walk p) (by_references d (join_target d most join' less' (own_walk p) m) less' p ss ls ns q tt' ms os (Some m) n)
        (references-hold d Reference OfLists OfNamed kept (join_target d most join' less' (own_walk p) m) less' (on-target (own_walk p) m) leaves p ss ls ns q tt' ms os x y (Some m) n f g)

    sides-walked : (a b : Schema) → Holds a → Holds b → Always Holds (join_sides d most join' less' a b)
    sides-walked (boolean false) b x y = tt
    sides-walked (boolean true) b x y = y
    sides-walked (object p ss ls ns) (boolean false) x y = tt
    sides-walked (object p ss ls ns) (boolean true) x y = x
    sides-walked (object p ss ls ns) (object q tt' ms os) x y = objects-walked p ss ls ns q tt' ms os x y p.reference q.reference x.0 y.0

    pub joins-walked : Kept (walked_join d most join' less')
    joins-walked a b x y =
        unless-deep most a (λ a'. unless_deep most b (join_sides d most join' less' a'))
        (unless-deep most b (join_sides d most join' less' (opened a)) (sides-walked (opened a) (opened b) (opened-holds a x) (opened-holds b y)))

    left-holds : (b : Schema) (w : Walk) (a : Schema) → Holds a → Holds (left_side b w a)
    left-holds (boolean b) w a h = h
    left-holds (object q tt' ms os) w a h = on_walk-holds (made_on w) a h

    pub leaves-walked : Kept (walked_less d most join' less')
    leaves-walked a b x y =
        unless-deep most a (λ a'. unless_deep most b (λ b'. less_layer d join' less' (left_side b' (walk_left a b) a') b'))
        (unless-deep most b (λ b'. less_layer d join' less' (left_side b' (walk_left a b) (opened a)) b')
        (less-holds d Reference OfLists OfNamed kept join' less' joins leaves (left_side (opened b) (walk_left a b) (opened a)) (opened b) (left-holds (opened b) (walk_left a b) (opened a) (opened-holds a x)) (opened-holds b y)))

    pub with-walked : (b : Schema) (ss : Same) → Holds b → HoldsSame ss → Always Holds (walked_with d most join' less' b ss)
    with-walked b ss x h =
        settled-outcome (walk_of b) (with_subschemas_layer d (on_made (walk_of b) join') (on_made (walk_of b) less') (opened b) (same_inside (walk_of b) ss))
        (with-subschemas d Reference OfLists OfNamed kept (on_made (walk_of b) join') (on_made (walk_of b) less') (on-made (walk_of b) join' joins) (on-made (walk_of b) less' leaves) (opened b) (same_inside (walk_of b) ss) (opened-holds b x) (same-inside (walk_of b) ss h))

  -- ---- by so many levels

  mutual
    parts-joins : (most n : ℕ) → Kept (parts_within d most n).join
    parts-joins most zero a b x y = tt
    parts-joins most (suc n) a b x y = joins-walked most (parts_within d most n).join (parts_within d most n).less (parts-joins most n) (parts-leaves most n) a b x y

    parts-leaves : (most n : ℕ) → Kept (parts_within d most n).less
    parts-leaves most zero a b x y = tt
    parts-leaves most (suc n) a b x y = leaves-walked most (parts_within d most n).join (parts_within d most n).less (parts-joins most n) (parts-leaves most n) a b x y

  pub join-kept : (most n : ℕ) → Kept (join_by_walks d most n)
  join-kept most n = joins-walked most (parts_within d most n).join (parts_within d most n).less (parts-joins most n) (parts-leaves most n)

  pub less-kept : (most n : ℕ) → Kept (less_by_walks d most n)
  less-kept most n = leaves-walked most (parts_within d most n).join (parts_within d most n).less (parts-joins most n) (parts-leaves most n)

  pub with-kept : (most n : ℕ) (b : Schema) (ss : Same) → Holds b → HoldsSame ss → Always Holds (with_by_walks d most n b ss)
  with-kept most n = with-walked most (parts_within d most n).join (parts_within d most n).less (parts-joins most n) (parts-leaves most n)

  pub several-kept : (most n : ℕ) (ss : Schemas) → HoldsAll ss → Always Holds (merge_by_walks d most n ss)
  several-kept most n = several d Reference OfLists OfNamed kept (join_by_walks d most n) (less_by_walks d most n) (join-kept most n) (less-kept most n)
