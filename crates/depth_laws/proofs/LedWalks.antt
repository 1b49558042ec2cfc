-- Walks of a document, continued by a step; schemas of it, opened and made, to which walks lead.
use Rattle.std.proofs.Common.{◌≡◌, ℕ, suc, ◌+◌, List, [], ◌∷◌, ◌++◌, ◌||◌, Bool, true, false, Option, Some, None, ◌⊎◌, inl, inr, refl, sym, ap, subst, ◌∙◌, arith, length, bytes_eq, codes, true≢false}
use Rattle.std.specs.Prelude.{Contains, IsTrue, IsSome, is_some, unwrap_or, option_map, option_and_then, if◌then◌else◌}
use Rattle.std.specs.Cmp.Lexicographic.{pointwise, pointwise_decides}
use Rattle.std.proofs.lemmas.Slice.Eq.{bytes_eq-Decides}
use Rattle.json_value.specs.Value.{same_bool}
use Rattle.schema_defs.specs.Location.{Step, Location, place}
use Rattle.schema_defs.specs.Schema.{Plain, Schema, boolean, object, Same, no_same, same_value, Lists, no_lists, lists, Named, no_named, named, MaybeSchema, no_schema, the_schema, MaybeSchemas, no_list, the_list, Schemas, no_more, schema, Places, no_items, each_item, by_place, Properties, no_properties, property, Definition, Document}
use Rattle.schema_defs.specs.Admits.{target, target_location, defined, defined_as, definition_name, definition_word, definition_location, is_root_reference}
use Rattle.schema_defs.specs.Children.{Child, at_schema, along, node_schema, definition_node, children, children_of_maybe, children_from, children_of_list, children_of_names, children_of_same, children_of_places, children_of_lists, children_of_named, schema_at}
use Rattle.schema_defs.specs.Walks.{IsChild, IsTarget, IsWalkFrom, merges_at, IsGuarded, one_step, to_target as goes_to_target}
use Rattle.each_schema.specs.Each.{EachSchema, EachInSame, EachInLists, EachInNamed, EachInMaybe, EachInList, EachInAll, EachInPlaces, EachInProperties, of_any_size}
use Rattle.merge_walks.specs.Carried.{Walk, last_of, to_child, to_target, root_walk, unmarked, all_but_last, is_made, made_on, on_walk, carried, maybe_inside, all_inside, list_inside, names_inside, places_inside, same_inside, lists_inside, named_inside, opened}
use Rattle.depth_laws.specs.Leading.{some_merges, IsMergingWalk, HasReference, IsLedTo, IsReached, walk_or, walk_on, walk_to, AreLedTo, LedToSame, LedToLists, LedToNamed, LedToMaybe, LedToList, LedToAll, LedToPlaces, LedToNames, IsBare, TargetsAreBare}
use Rattle.depth_laws.proofs.AllPlaces.{Has, has-left, has-right, has-contains}
use Rattle.depth_laws.proofs.EveryChild.{every_child_stands}

-- ---- the last location of a walk, and its mark

pub last-added : (w : Walk) (l : Location) → last_of (w ++ l ∷ []) ≡ l
last-added [] l = refl
last-added (m ∷ []) l = refl
last-added (m ∷ n ∷ w) l = last-added (n ∷ w) l

made-by : (m : Location) (w : Walk) (l : Location) → is_made (m ∷ (w ++ l ∷ [])) ≡ pointwise bytes_eq (last_of (m ∷ w)) l
made-by m [] l = refl
made-by m (n ∷ []) l = refl
made-by m (n ∷ k ∷ w) l = made-by n (k ∷ w) l

same-place : (l : Location) → pointwise bytes_eq l l ≡ true
same-place l = (pointwise_decides {E = bytes_eq} bytes_eq-Decides l l).1 refl

-- of two that differ
not-same : (l m : Location) → (l ≡ m → ⊥) → pointwise bytes_eq l m ≡ false
not-same l m n = by (pointwise bytes_eq l m) refl
  where
    by : (b : Bool) → pointwise bytes_eq l m ≡ b → pointwise bytes_eq l m ≡ false
    by false e = e
    by true e = absurd (n ((pointwise_decides {E = bytes_eq} bytes_eq-Decides l m).0 e))

more-steps : (l : Location) (k : Step) (ks : Location) → length (l ++ k ∷ ks) ≡ length l + suc (length ks)
more-steps [] k ks = omega (arith)
more-steps (m ∷ l) k ks = omega (arith, more-steps l k ks)

child-differs : (l : Location) (k : Step) (ks : Location) → l ≡ l ++ k ∷ ks → ⊥
child-differs l k ks e = absurd (omega (arith, ap length e, more-steps l k ks))

pub child-unmade : (w : Walk) (k : Step) (ks : Location) → is_made (to_child w (k ∷ ks)) ≡ false
child-unmade [] k ks = refl
child-unmade (m ∷ w) k ks = made-by m w (last_of (m ∷ w) ++ k ∷ ks) ∙ not-same (last_of (m ∷ w)) (last_of (m ∷ w) ++ k ∷ ks) (child-differs (last_of (m ∷ w)) k ks)

all-but-added : (w : Walk) (l : Location) → all_but_last (w ++ l ∷ []) ≡ w
all-but-added [] l = refl
all-but-added (m ∷ []) l = refl
all-but-added (m ∷ n ∷ w) l = ap (λ v. m ∷ v) (all-but-added (n ∷ w) l)

pub unmarked-made : (m : Location) (w : Walk) → unmarked (made_on (m ∷ w)) ≡ m ∷ w
unmarked-made m w = ap (λ b. if b then all_but_last (made_on (m ∷ w)) else made_on (m ∷ w)) (made-by m w (last_of (m ∷ w)) ∙ same-place (last_of (m ∷ w))) ∙ all-but-added (m ∷ w) (last_of (m ∷ w))

-- ---- walks, continued

or-false : (b : Bool) → (b || false) ≡ b
or-false true = refl
or-false false = refl

or-both : (a b c : Bool) → (a || (b || c)) ≡ ((a || b) || c)
or-both true b c = refl
or-both false b c = refl

or-right : (a b : Bool) → b ≡ true → (a || b) ≡ true
or-right true b e = refl
or-right false b e = e

module _ (d : Document) where
  abbrev pub Goes : Bool → Location → Walk → Location → Type 0
  Goes b l ls m = IsChild d (last_of (l ∷ ls)) m ⊎ (IsTrue (b || some_merges d (l ∷ ls)) × IsTarget d (last_of (l ∷ ls)) m)

  pub continued : (b : Bool) (l : Location) (ls : Walk) (m : Location) → IsWalkFrom d b l ls → Goes b l ls m → IsSome (schema_at d m) → IsWalkFrom d b l (ls ++ m ∷ [])
  continued b l [] m h (inl c) s = (inl c, s)
  continued b l [] m h (inr t) s = (inr (sym (ap (λ c. b || c) (or-false (merges_at d l))) ∙ t.0, t.1), s)
  continued b l (n ∷ ns) m h (inl c) s = (h.0, continued (b || merges_at d l) n ns m h.1 (inl c) s)
  continued b l (n ∷ ns) m h (inr t) s = (h.0, continued (b || merges_at d l) n ns m h.1 (inr (sym (or-both b (merges_at d l) (some_merges d (n ∷ ns))) ∙ t.0, t.1)) s)

  still-merges : (w : Walk) (m : Location) → some_merges d w ≡ true → some_merges d (w ++ m ∷ []) ≡ true
  still-merges [] m e = absurd (true≢false (sym e))
  still-merges (l ∷ w) m e = by (merges_at d l) e (λ f. still-merges w m f)
    where
      by : (b : Bool) → (b || some_merges d w) ≡ true → (some_merges d w ≡ true → some_merges d (w ++ m ∷ []) ≡ true) → (b || some_merges d (w ++ m ∷ [])) ≡ true
      by true f g = refl
      by false f g = g f

  pub to-child : (w : Walk) (s : Schema) (c : Child) → IsMergingWalk d w → schema_at d (last_of w) ≡ Some s → Contains (children s) c → schema_at d (last_of w ++ c.0) ≡ Some c.1 → IsMergingWalk d (to_child w c.0)
  to-child [] s c h e g f = absurd h.0
  to-child (l ∷ ls) s c h e g f = (continued false l ls (last_of (l ∷ ls) ++ c.0) h.0 (inl (s, c, e, g, refl)) (ap is_some f), still-merges (l ∷ ls) (last_of (l ∷ ls) ++ c.0) h.1)

  pub to-the-target : (w : Walk) (l : Location) (t : Schema) → IsMergingWalk d w → IsTarget d (last_of w) l → schema_at d l ≡ Some t → IsMergingWalk d (w ++ l ∷ [])
  to-the-target [] l t h g f = absurd h.0
  to-the-target (k ∷ ks) l t h g f = (continued false k ks l h.0 (inr (h.1, g)) (ap is_some f), still-merges (k ∷ ks) l h.1)

-- ---- where a target stands

some-is : {X : Type 0} (x y : X) → Some x ≡ Some y → x ≡ y
some-is x y e = ap (λ o. unwrap_or o x) e

none-is-none : {X : Type 0} (x : X) → None ≡ Some x → ⊥
none-is-none x e = cc

defined-same : (n : List ℕ) (es : List Definition) (e : Definition) → defined n es ≡ Some e → defined e.name es ≡ Some e
defined-same n [] e h = absurd (none-is-none e h)
defined-same n (x ∷ es) e h = by (bytes_eq n x.name) refl h (λ g. defined-same n es e g)
  where
    again : bytes_eq n x.name ≡ false → (b : Bool) → bytes_eq e.name x.name ≡ b → defined n es ≡ Some e → defined e.name es ≡ Some e → (if b then Some x else defined e.name es) ≡ Some e
    again f false g k j = j
    again f true g k j = absurd (true≢false (sym ((bytes_eq-Decides n x.name).1 (name-of n es e k ∙ (bytes_eq-Decides e.name x.name).0 g)) ∙ f))
      where
        name-of : (n : List ℕ) (es : List Definition) (e : Definition) → defined n es ≡ Some e → n ≡ e.name
        name-of n [] e h = absurd (none-is-none e h)
        name-of n (y ∷ ys) e h = at (bytes_eq n y.name) refl h (λ g. name-of n ys e g)
          where
            at : (b : Bool) → bytes_eq n y.name ≡ b → (if b then Some y else defined n ys) ≡ Some e → (defined n ys ≡ Some e → n ≡ e.name) → n ≡ e.name
            at true f g later = (bytes_eq-Decides n y.name).0 f ∙ ap (λ z. z.name) (some-is y e g)
            at false f g later = later g

    by : (b : Bool) → bytes_eq n x.name ≡ b → (if b then Some x else defined n es) ≡ Some e → (defined n es ≡ Some e → defined e.name es ≡ Some e) → defined e.name (x ∷ es) ≡ Some e
    by true f g later = ap (λ z. if bytes_eq z.name x.name then Some x else defined z.name es) (sym (some-is x e g)) ∙ ap (λ b. if b then Some x else defined x.name es) ((bytes_eq-Decides x.name x.name).1 refl) ∙ g
    by false f g later = again f (bytes_eq e.name x.name) refl g (later g)

module _ (d : Document) where
  -- what is found of a definition
  abbrev found : Bool → Option Definition → Option Schema
  found b o = option_and_then node_schema (option_and_then (along []) (definition_node b o))

  pub definition-stands : (e : Definition) → defined e.name d.definitions ≡ Some e → schema_at d (definition_location e) ≡ Some e.body
  definition-stands e h = by e.under_defs refl
    where
      at : (b : Bool) → e.under_defs ≡ b → schema_at d (definition_word b ∷ e.name ∷ []) ≡ Some e.body
      at true f = ap (found true) h ∙ ap (λ b. option_and_then node_schema (option_and_then (along []) (if same_bool b true then Some (at_schema e.body) else None))) f
      at false f = ap (found false) h ∙ ap (λ b. option_and_then node_schema (option_and_then (along []) (if same_bool b false then Some (at_schema e.body) else None))) f

      by : (b : Bool) → e.under_defs ≡ b → schema_at d (definition_location e) ≡ Some e.body
      by b f = ap (λ b. schema_at d (definition_word b ∷ e.name ∷ [])) f ∙ at b f

  -- the location of a target, and what stands there
  pub target-stands : (q : List ℕ) (t : Schema) → target d q ≡ Some t → (l : Location) × (target_location d q ≡ Some l) × (schema_at d l ≡ Some t)
  target-stands q t h = by (is_root_reference q) h
    where
      at : (o : Option (List ℕ)) (u : Option Definition) → defined_as d o ≡ u → option_map (λ e. e.body) u ≡ Some t → (l : Location) × (option_map definition_location u ≡ Some l) × (schema_at d l ≡ Some t)
      at o None e g = absurd (none-is-none t g)
      at None (Some u) e g = absurd (none-is-none u e)
      at (Some n) (Some u) e g = (definition_location u, refl, definition-stands u (defined-same n d.definitions u e) ∙ g)

      by : (b : Bool) → (if b then Some d.root else option_map (λ e. e.body) (defined_as d (definition_name q))) ≡ Some t
          → (l : Location) × ((if b then Some [] else option_map definition_location (defined_as d (definition_name q))) ≡ Some l) × (schema_at d l ≡ Some t)
      by true g = ([], refl, g)
      by false g = at (definition_name q) (defined_as d (definition_name q)) refl g

-- no reference leads to where it stands
abbrev pub LeadsElsewhere : Document → Type 0
LeadsElsewhere d = (l : Location) → IsTarget d l l → ⊥

pub guarded-leads-elsewhere : (d : Document) → IsGuarded d → LeadsElsewhere d
guarded-leads-elsewhere d g l t = g l (one_step l l (goes_to_target l l t.0 t.1 t.2 t.3 t.4))

-- ---- the walks to the schemas of a list, from place i on

abbrev pub From : Option Walk → Step → ℕ → (ℕ → Option Walk) → Type 0
From u k i f = (j : ℕ) → f j ≡ walk_to u (k ∷ place (i + j) ∷ [])

pub from-next : (u : Option Walk) (k : Step) (i : ℕ) (f : ℕ → Option Walk) → From u k i f → From u k (suc i) (λ j. f (suc j))
from-next u k i f e j = let next : i + suc j ≡ suc i + j = omega arith in e (suc j) ∙ ap (λ n. walk_to u (k ∷ place n ∷ [])) next

pub from-here : (u : Option Walk) (k : Step) (i : ℕ) (f : ℕ → Option Walk) → From u k i f → f 0 ≡ walk_to u (k ∷ place i ∷ [])
from-here u k i f e = let first : i + 0 ≡ i = omega arith in e 0 ∙ ap (λ n. walk_to u (k ∷ place n ∷ [])) first

pub from-first : (u : Option Walk) (k : Step) → From u k 0 (λ i. walk_to u (k ∷ place i ∷ []))
from-first u k j = let same : j ≡ 0 + j = omega arith in ap (λ n. walk_to u (k ∷ place n ∷ [])) same

-- ---- walks that go on to children and targets

pub record GoesOn (d : Document) (W : Walk → Type 0) : Type 0 where
  pub somewhere : W [] → ⊥
  pub to_children : (w : Walk) (s : Schema) (c : Child) → W w → schema_at d (last_of w) ≡ Some s → Contains (children s) c → schema_at d (last_of w ++ c.0) ≡ Some c.1 → W (to_child w c.0)
  pub to_targets : (w : Walk) (l : Location) (t : Schema) → W w → IsTarget d (last_of w) l → schema_at d l ≡ Some t → W (w ++ l ∷ [])

module _ (d : Document) (W : Walk → Type 0) (on : GoesOn d W) where
  -- ---- whatever an object stands by, where it has a walk of its own

  abbrev pub AllLedTo : Option Walk → Option Walk → Option (List ℕ) → Same → Lists → Named → Type 0
  AllLedTo o v q ss ls ns = IsLedTo d W (walk_or o v) q × LedToSame d W (walk_on o v) ss × LedToLists d W (walk_on o v) ls × LedToNamed d W (walk_on o v) ns

  pub any-object : (o : Option Walk) (v : Option Walk) (q : Option (List ℕ)) (ss : Same) (ls : Lists) (ns : Named) → AllLedTo None v q ss ls ns → AllLedTo o v q ss ls ns
  any-object o None q ss ls ns h = absurd h.0
  any-object o (Some w) q ss ls ns h = h

  -- ---- schemas that are opened: those inside have walks of their own, and stand by that of their owner

  abbrev pub AllInside : Option Walk → Same → Lists → Named → Type 0
  AllInside o ss ls ns = LedToSame d W o ss × LedToLists d W o ls × LedToNamed d W o ns

  abbrev pub IsOpen : Option Walk → Option (List ℕ) → Same → Lists → Named → Type 0
  IsOpen None q ss ls ns = ⊥
  IsOpen (Some w) q ss ls ns = IsLedTo d W (Some (unmarked w)) q × AllInside None ss ls ns × AllInside (walk_on None (Some w)) ss ls ns

  abbrev pub Opened : Schema → Type 0
  Opened (boolean b) = Unit {0}
  Opened (object p ss ls ns) = IsOpen p.walk p.reference ss ls ns

  open-leads : (v : Option Walk) (q : Option (List ℕ)) (ss : Same) (ls : Lists) (ns : Named) → IsOpen v q ss ls ns → AllLedTo None v q ss ls ns
  open-leads None q ss ls ns h = absurd h
  open-leads (Some w) q ss ls ns h = (h.0, h.2.0, h.2.1, h.2.2)

  pub opened-leads : (s : Schema) → Opened s → AreLedTo d W None s
  opened-leads (boolean b) h = tt
  opened-leads (object p ss ls ns) h = open-leads p.walk p.reference ss ls ns h

  -- those inside stand by the walk of their owner, or have their own
  abbrev pub IsOf : Option Walk → Walk → Type 0
  IsOf None w = Unit {0}
  IsOf (Some v) w = v ≡ w

  pub carries : (u : Walk) (s : Schema) → is_made u ≡ false → AreLedTo d W (Some u) s → AreLedTo d W None (carried u s)
  carries u (boolean b) e h = tt
  carries u (object p ss ls ns) e h = by p.walk h
    where
      by : (v : Option Walk) → AllLedTo (Some u) v p.reference ss ls ns → AllLedTo None (Some (unwrap_or v u)) p.reference ss ls ns
      by None g =
          subst (λ b. IsLedTo d W (Some (if b then all_but_last u else u)) p.reference × LedToSame d W (if b then None else Some u) ss × LedToLists d W (if b then None else Some u) ls × LedToNamed d W (if b then None else Some u) ns) (sym e) g
      by (Some w) g = g

  pub carries-own : (u : Walk) (s : Schema) → AreLedTo d W None s → AreLedTo d W None (carried u s)
  carries-own u (boolean b) h = tt
  carries-own u (object p ss ls ns) h = by p.walk h
    where
      by : (v : Option Walk) → AllLedTo None v p.reference ss ls ns → AllLedTo None (Some (unwrap_or v u)) p.reference ss ls ns
      by None g = absurd g.0
      by (Some w) g = g

  -- it is told again by what a boolean stands, or not
  abbrev pub IsAgain : Option Walk → Option Walk → Type 0
  IsAgain None o = Unit {0}
  IsAgain (Some v) o = Some v ≡ o

  module _ (w : Walk) where
    pub carries-child : (o : Option Walk) → IsOf o w → (k : Step) (ks : Location) (s : Schema) → AreLedTo d W (walk_to o (k ∷ ks)) s → AreLedTo d W None (carried (to_child w (k ∷ ks)) s)
    carries-child None e k ks s h = carries-own (to_child w (k ∷ ks)) s h
    carries-child (Some v) e k ks s h = carries (to_child w (k ∷ ks)) s (child-unmade w k ks) (subst (λ v. AreLedTo d W (Some (to_child v (k ∷ ks))) s) e h)

    module _ (o : Option Walk) (of : IsOf o w) (z : Option Walk) (again : IsAgain z o) where
      child-opens : (k : Step) (ks : Location) (s : Schema) → AreLedTo d W (walk_to o (k ∷ ks)) s → AreLedTo d W (walk_to z (k ∷ ks)) (carried (to_child w (k ∷ ks)) s)
      child-opens k ks (boolean b) h = by z again
        where
          by : (z : Option Walk) → IsAgain z o → IsReached W (walk_to z (k ∷ ks))
          by None e = tt
          by (Some v) e = subst (λ u. IsReached W (walk_to u (k ∷ ks))) (sym e) h
      child-opens k ks (object p ss ls ns) h =
          any-object (walk_to z (k ∷ ks)) (Some (unwrap_or p.walk (to_child w (k ∷ ks)))) p.reference ss ls ns (carries-child o of k ks (object p ss ls ns) h)

      maybe-opens : (k : Step) (m : MaybeSchema) → LedToMaybe d W (walk_to o (k ∷ [])) m → LedToMaybe d W (walk_to z (k ∷ [])) (maybe_inside w k m)
      maybe-opens k no_schema h = tt
      maybe-opens k (the_schema s) h = child-opens k [] s h

      all-opens : (k : Step) (i : ℕ) (f g : ℕ → Option Walk) → From o k i f → From z k i g → (ss : Schemas) → LedToAll d W f ss → LedToAll d W g (all_inside w k i ss)
      all-opens k i f g e a no_more h = tt
      all-opens k i f g e a (schema s ss) h = (
        subst (λ u. AreLedTo d W u (carried (to_child w (k ∷ place i ∷ [])) s)) (sym (from-here z k i g a)) (child-opens k (place i ∷ []) s (subst (λ u. AreLedTo d W u s) (from-here o k i f e) h.0)),
        all-opens k (suc i) (λ j. f (suc j)) (λ j. g (suc j)) (from-next o k i f e) (from-next z k i g a) ss h.1,
      )

      list-opens : (k : Step) (m : MaybeSchemas) → LedToList d W (λ i. walk_to o (k ∷ place i ∷ [])) m → LedToList d W (λ i. walk_to z (k ∷ place i ∷ [])) (list_inside w k m)
      list-opens k no_list h = tt
      list-opens k (the_list ss) h = all-opens k 0 (λ i. walk_to o (k ∷ place i ∷ [])) (λ i. walk_to z (k ∷ place i ∷ [])) (from-first o k) (from-first z k) ss h

      names-opens : (k : Step) (ps : Properties) → LedToNames d W (λ n. walk_to o (k ∷ n ∷ [])) ps → LedToNames d W (λ n. walk_to z (k ∷ n ∷ [])) (names_inside w k ps)
      names-opens k no_properties h = tt
      names-opens k (property n s ps) h = (child-opens k (n ∷ []) s h.0, names-opens k ps h.1)

      places-opens : (p : Places) → LedToPlaces d W o p → LedToPlaces d W z (places_inside w p)
      places-opens no_items h = tt
      places-opens (each_item s) h = child-opens (codes "items") [] s h
      places-opens (by_place ss) h =
          all-opens (codes "items") 0 (λ i. walk_to o (codes "items" ∷ place i ∷ [])) (λ i. walk_to z (codes "items" ∷ place i ∷ [])) (from-first o (codes "items")) (from-first z (codes "items")) ss h

      pub same-opens : (ss : Same) → LedToSame d W o ss → LedToSame d W z (same_inside w ss)
      same-opens no_same h = tt
      same-opens (same_value all any one none c) h = (list-opens (codes "allOf") all h.0, list-opens (codes "anyOf") any h.1, list-opens (codes "oneOf") one h.2, maybe-opens (codes "not") none h.3)

      lists-opens : (ls : Lists) → LedToLists d W o ls → LedToLists d W z (lists_inside w ls)
      lists-opens no_lists h = tt
      lists-opens (lists p x a c) h = (places-opens p h.0, maybe-opens (codes "additionalItems") x h.1, maybe-opens (codes "contains") a h.2)

      named-opens : (ns : Named) → LedToNamed d W o ns → LedToNamed d W z (named_inside w ns)
      named-opens no_named h = tt
      named-opens (named ps pp x m c) h = (names-opens (codes "properties") ps h.0, names-opens (codes "patternProperties") pp h.1, maybe-opens (codes "additionalProperties") x h.2, maybe-opens (codes "propertyNames") m h.3)

    inside-opens : (o : Option Walk) → IsOf o w → (z : Option Walk) → IsAgain z o → (ss : Same) (ls : Lists) (ns : Named) → AllInside o ss ls ns → AllInside z (same_inside w ss) (lists_inside w ls) (named_inside w ns)
    inside-opens o of z again ss ls ns h = (same-opens o of z again ss h.0, lists-opens o of z again ls h.1, named-opens o of z again ns h.2)

  is-own : (w : Walk) → IsOf (walk_on None (Some w)) (unmarked w)
  is-own w = by (is_made w)
    where
      by : (b : Bool) → IsOf (if b then None else Some w) (if b then all_but_last w else w)
      by true = tt
      by false = refl

  itself : (o : Option Walk) → IsAgain o o
  itself None = tt
  itself (Some w) = refl

  pub opens : (s : Schema) → AreLedTo d W None s → Opened (opened s)
  opens (boolean b) h = tt
  opens (object p ss ls ns) h = by p.walk h
    where
      by : (v : Option Walk) → AllLedTo None v p.reference ss ls ns
          → IsOpen (Some (unwrap_or v root_walk)) p.reference (same_inside (unwrap_or (option_map unmarked v) root_walk) ss) (lists_inside (unwrap_or (option_map unmarked v) root_walk) ls) (named_inside (unwrap_or (option_map unmarked v) root_walk) ns)
      by None g = absurd g.0
      by (Some w) g = (
        g.0,
        inside-opens (unmarked w) (walk_on None (Some w)) (is-own w) None tt ss ls ns (g.1, g.2, g.3),
        inside-opens (unmarked w) (walk_on None (Some w)) (is-own w) (walk_on None (Some w)) (itself (walk_on None (Some w))) ss ls ns (g.1, g.2, g.3),
      )

  -- ---- on a walk with the mark of what was made

  abbrev pub IsMade : Option Walk → Option (List ℕ) → Same → Lists → Named → Type 0
  IsMade None q ss ls ns = ⊥
  IsMade (Some w) q ss ls ns = (is_made w ≡ true) × IsLedTo d W (Some (unmarked w)) q × LedToSame d W None ss × LedToLists d W None ls × LedToNamed d W None ns

  pub is-made : (w : Walk) (q : Option (List ℕ)) (ss : Same) (ls : Lists) (ns : Named) → IsLedTo d W (Some w) q → LedToSame d W None ss → LedToLists d W None ls → LedToNamed d W None ns → IsMade (Some (made_on w)) q ss ls ns
  is-made [] q ss ls ns h a b c = absurd (on.somewhere h.0)
  is-made (l ∷ w) q ss ls ns h a b c = (made-by l w (last_of (l ∷ w)) ∙ same-place (last_of (l ∷ w)), subst (λ v. IsLedTo d W (Some v) q) (sym (unmarked-made l w)) h, a, b, c)

  pub made-leads : (v : Option Walk) (q : Option (List ℕ)) (ss : Same) (ls : Lists) (ns : Named) → IsMade v q ss ls ns → AllLedTo None v q ss ls ns
  made-leads None q ss ls ns h = absurd h
  made-leads (Some w) q ss ls ns h = (
    h.1,
    subst (λ b. LedToSame d W (if b then None else Some w) ss) (sym h.0) h.2,
    subst (λ b. LedToLists d W (if b then None else Some w) ls) (sym h.0) h.3,
    subst (λ b. LedToNamed d W (if b then None else Some w) ns) (sym h.0) h.4,
  )

  -- ---- schemas of the document

  -- a walk leads to a schema inside, which stands there
  abbrev Reaches : Walk → Child → Type 0
  Reaches u c = W (to_child u c.0) × (schema_at d (last_of (to_child u c.0)) ≡ Some c.1)

  abbrev Bare : Schema → Type 0
  Bare = EachSchema IsBare of_any_size

  mutual
    pub stands : (u : Walk) (s : Schema) → W u → schema_at d (last_of u) ≡ Some s → Bare s → AreLedTo d W (Some u) s
    stands u (boolean b) h e bare = h
    stands u (object p ss ls ns) h e bare =
        subst (λ o. IsLedTo d W (walk_or (Some u) o) p.reference × LedToSame d W (walk_on (Some u) o) ss × LedToLists d W (walk_on (Some u) o) ls × LedToNamed d W (walk_on (Some u) o) ns) (sym bare.0.0) (
          (h, refers p.reference refl),
          stands-same u ss (λ c g. reaches c (has-left (children_of_same ss ++ children_of_lists ls) (children_of_named ns) c (has-left (children_of_same ss) (children_of_lists ls) c g))) bare.1,
          stands-lists u ls (λ c g. reaches c (has-left (children_of_same ss ++ children_of_lists ls) (children_of_named ns) c (has-right (children_of_same ss) (children_of_lists ls) c g))) bare.2,
          stands-named u ns (λ c g. reaches c (has-right (children_of_same ss ++ children_of_lists ls) (children_of_named ns) c g)) bare.3,
        )
      where
        refers : (o : Option (List ℕ)) → p.reference ≡ o → HasReference d (last_of u) o
        refers None f = tt
        refers (Some q) f = (object p ss ls ns, e, f)

        reaches : (c : Child) → Has (children_of_same ss ++ children_of_lists ls ++ children_of_named ns) c → Reaches u c
        reaches c g =
            let k : Contains (children (object p ss ls ns)) c = has-contains (children_of_same ss ++ children_of_lists ls ++ children_of_named ns) c g in
            let there : schema_at d (last_of u ++ c.0) ≡ Some c.1 = every_child_stands d (last_of u) (object p ss ls ns) c e bare.0.1 k in
            (on.to_children u (object p ss ls ns) c h e k there, ap (λ l. schema_at d l) (last-added u (last_of u ++ c.0)) ∙ there)

    stands-same : (u : Walk) (ss : Same) → ((c : Child) → Has (children_of_same ss) c → Reaches u c) → EachInSame IsBare of_any_size ss → LedToSame d W (Some u) ss
    stands-same u no_same r bare = tt
    stands-same u (same_value all any one none x) r bare =
        let a : List Child = children_of_list (codes "allOf") all in
        let b : List Child = children_of_list (codes "anyOf") any in
        let o : List Child = children_of_list (codes "oneOf") one in
        let n : List Child = children_of_maybe (codes "not") none in (
          stands-list u (codes "allOf") all (λ c g. r c (has-left (a ++ b ++ o) n c (has-left (a ++ b) o c (has-left a b c g)))) bare.0,
          stands-list u (codes "anyOf") any (λ c g. r c (has-left (a ++ b ++ o) n c (has-left (a ++ b) o c (has-right a b c g)))) bare.1,
          stands-list u (codes "oneOf") one (λ c g. r c (has-left (a ++ b ++ o) n c (has-right (a ++ b) o c g))) bare.2,
          stands-maybe u (codes "not") none (λ c g. r c (has-right (a ++ b ++ o) n c g)) bare.3,
        )

    stands-lists : (u : Walk) (ls : Lists) → ((c : Child) → Has (children_of_lists ls) c → Reaches u c) → EachInLists IsBare of_any_size ls → LedToLists d W (Some u) ls
    stands-lists u no_lists r bare = tt
    stands-lists u (lists p x q y) r bare =
        let a : List Child = children_of_places p in
        let b : List Child = children_of_maybe (codes "additionalItems") x in
        let o : List Child = children_of_maybe (codes "contains") q in (
          stands-places u p (λ c g. r c (has-left (a ++ b) o c (has-left a b c g))) bare.0,
          stands-maybe u (codes "additionalItems") x (λ c g. r c (has-left (a ++ b) o c (has-right a b c g))) bare.1,
          stands-maybe u (codes "contains") q (λ c g. r c (has-right (a ++ b) o c g)) bare.2,
        )

    stands-named : (u : Walk) (ns : Named) → ((c : Child) → Has (children_of_named ns) c → Reaches u c) → EachInNamed IsBare of_any_size ns → LedToNamed d W (Some u) ns
    stands-named u no_named r bare = tt
    stands-named u (named ps pp x m y) r bare =
        let a : List Child = children_of_names (codes "properties") ps in
        let b : List Child = children_of_names (codes "patternProperties") pp in
        let o : List Child = children_of_maybe (codes "additionalProperties") x in
        let n : List Child = children_of_maybe (codes "propertyNames") m in (
          stands-names u (codes "properties") ps (λ c g. r c (has-left (a ++ b ++ o) n c (has-left (a ++ b) o c (has-left a b c g)))) bare.0,
          stands-names u (codes "patternProperties") pp (λ c g. r c (has-left (a ++ b ++ o) n c (has-left (a ++ b) o c (has-right a b c g)))) bare.1,
          stands-maybe u (codes "additionalProperties") x (λ c g. r c (has-left (a ++ b ++ o) n c (has-right (a ++ b) o c g))) bare.2,
          stands-maybe u (codes "propertyNames") m (λ c g. r c (has-right (a ++ b ++ o) n c g)) bare.3,
        )

    stands-maybe : (u : Walk) (k : Step) (m : MaybeSchema) → ((c : Child) → Has (children_of_maybe k m) c → Reaches u c) → EachInMaybe IsBare of_any_size m → LedToMaybe d W (Some (to_child u (k ∷ []))) m
    stands-maybe u k no_schema r bare = tt
    stands-maybe u k (the_schema s) r bare =
        let h : Reaches u (k ∷ [], s) = r (k ∷ [], s) (inl refl) in
        stands (to_child u (k ∷ [])) s h.0 h.1 bare

    stands-list : (u : Walk) (k : Step) (m : MaybeSchemas) → ((c : Child) → Has (children_of_list k m) c → Reaches u c) → EachInList IsBare of_any_size m → LedToList d W (λ i. Some (to_child u (k ∷ place i ∷ []))) m
    stands-list u k no_list r bare = tt
    stands-list u k (the_list ss) r bare = stands-all u k 0 (λ i. Some (to_child u (k ∷ place i ∷ []))) (λ j. let same : j ≡ 0 + j = omega arith in ap (λ n. Some (to_child u (k ∷ place n ∷ []))) same) ss r bare

    stands-all : (u : Walk) (k : Step) (i : ℕ) (f : ℕ → Option Walk) → ((j : ℕ) → f j ≡ Some (to_child u (k ∷ place (i + j) ∷ []))) → (ss : Schemas) → ((c : Child) → Has (children_from k i ss) c → Reaches u c) → EachInAll IsBare of_any_size ss → LedToAll d W f ss
    stands-all u k i f e no_more r bare = tt
    stands-all u k i f e (schema s ss) r bare =
        let h : Reaches u (k ∷ place i ∷ [], s) = r (k ∷ place i ∷ [], s) (inl refl) in
        let first : i + 0 ≡ i = omega arith in (
          subst (λ o. AreLedTo d W o s) (sym (e 0 ∙ ap (λ n. Some (to_child u (k ∷ place n ∷ []))) first)) (stands (to_child u (k ∷ place i ∷ [])) s h.0 h.1 bare.0),
          stands-all u k (suc i) (λ j. f (suc j)) (λ j. let next : i + suc j ≡ suc i + j = omega arith in e (suc j) ∙ ap (λ n. Some (to_child u (k ∷ place n ∷ []))) next) ss (λ c g. r c (inr g)) bare.1,
        )

    stands-places : (u : Walk) (p : Places) → ((c : Child) → Has (children_of_places p) c → Reaches u c) → EachInPlaces IsBare of_any_size p → LedToPlaces d W (Some u) p
    stands-places u no_items r bare = tt
    stands-places u (each_item s) r bare =
        let h : Reaches u (codes "items" ∷ [], s) = r (codes "items" ∷ [], s) (inl refl) in
        stands (to_child u (codes "items" ∷ [])) s h.0 h.1 bare
    stands-places u (by_place ss) r bare =
        stands-all u (codes "items") 0 (λ i. Some (to_child u (codes "items" ∷ place i ∷ []))) (λ j. let same : j ≡ 0 + j = omega arith in ap (λ n. Some (to_child u (codes "items" ∷ place n ∷ []))) same) ss r bare

    stands-names : (u : Walk) (k : Step) (ps : Properties) → ((c : Child) → Has (children_of_names k ps) c → Reaches u c) → EachInProperties IsBare of_any_size ps → LedToNames d W (λ n. Some (to_child u (k ∷ n ∷ []))) ps
    stands-names u k no_properties r bare = tt
    stands-names u k (property n s ps) r bare =
        let h : Reaches u (k ∷ n ∷ [], s) = r (k ∷ n ∷ [], s) (inl refl) in
        (stands (to_child u (k ∷ n ∷ [])) s h.0 h.1 bare.0, stands-names u k ps (λ c g. r c (inr g)) bare.1)

  pub stands-object : (u : Walk) (p : Plain) (ss : Same) (ls : Lists) (ns : Named) → W u → schema_at d (last_of u) ≡ Some (object p ss ls ns) → Bare (object p ss ls ns)
      → IsLedTo d W (Some u) p.reference × LedToSame d W (Some u) ss × LedToLists d W (Some u) ls × LedToNamed d W (Some u) ns
  stands-object u p ss ls ns h e bare =
      subst (λ o. IsLedTo d W (walk_or (Some u) o) p.reference × LedToSame d W (walk_on (Some u) o) ss × LedToLists d W (walk_on (Some u) o) ls × LedToNamed d W (walk_on (Some u) o) ns) bare.0.0 (stands u (object p ss ls ns) h e bare)

  -- ---- along a reference

  pub target-leads : LeadsElsewhere d → TargetsAreBare d → (w : Walk) (q : List ℕ) (t : Schema) → IsLedTo d W (Some w) (Some q) → target d q ≡ Some t → AreLedTo d W None (on_walk (to_target w (target_location d q)) t)
  target-leads elsewhere targets w q t h e = by (target-stands d q t e)
    where
      on-target : (l : Location) (s : Schema) → is_made (w ++ l ∷ []) ≡ false → W (w ++ l ∷ []) → schema_at d (last_of (w ++ l ∷ [])) ≡ Some s → Bare s → AreLedTo d W None (on_walk (w ++ l ∷ []) s)
      on-target l (boolean b) made m f bare = tt
      on-target l (object p ss ls ns) made m f bare =
          subst (λ b. IsLedTo d W (Some (if b then all_but_last (w ++ l ∷ []) else w ++ l ∷ [])) p.reference × LedToSame d W (if b then None else Some (w ++ l ∷ [])) ss × LedToLists d W (if b then None else Some (w ++ l ∷ [])) ls × LedToNamed d W (if b then None else Some (w ++ l ∷ [])) ns)
          (sym made) (stands-object (w ++ l ∷ []) p ss ls ns m f bare)

      unmade : (v : Walk) (l : Location) → (last_of v ≡ l → ⊥) → is_made (v ++ l ∷ []) ≡ false
      unmade [] l n = refl
      unmade (m ∷ v) l n = made-by m v l ∙ not-same (last_of (m ∷ v)) l n

      by : (l : Location) × (target_location d q ≡ Some l) × (schema_at d l ≡ Some t) → AreLedTo d W None (on_walk (to_target w (target_location d q)) t)
      by r =
          let goes : IsTarget d (last_of w) r.0 = (h.1.0, q, h.1.1, h.1.2, r.1) in
          subst (λ o. AreLedTo d W None (on_walk (to_target w o) t)) (sym r.1)
          (on-target r.0 t (unmade w r.0 (λ f. elsewhere r.0 (subst (λ m. IsTarget d m r.0) f goes))) (on.to_targets w r.0 t h.0 goes r.2) (ap (λ m. schema_at d m) (last-added w r.0) ∙ r.2) (targets q t e))

-- ---- merging walks go on

pub merging-goes-on : (d : Document) → GoesOn d (IsMergingWalk d)
merging-goes-on d = record { somewhere = λ h. h.0; to_children = to-child d; to_targets = to-the-target d }
