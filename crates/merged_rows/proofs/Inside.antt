-- Where schemas inside stand, by starts.
use Rattle.std.proofs.Common.{◌≡◌, List, [], ◌∷◌, ◌++◌, Bool, true, false, Option, Some, None, option_map, unwrap_or, refl, sym, ap, ◌∙◌, subst}
use Rattle.std.specs.Prelude.{drop, take, if◌then◌else◌}
use Rattle.schema_defs.specs.Location.{Location}
use Rattle.schema_defs.specs.Schema.{Schema, boolean, object}
use Rattle.convert_defs.specs.Convert.{Handed}
use Rattle.convert_walks.specs.Spot as spots
use Rattle.convert_walks.specs.Spot.{Spot, Branches, branch_at, part_spot, spot_inside, spot_of_branch}
use Rattle.merge_walks.specs.Carried.{Walk, last_of, to_child, is_made, unmarked}
use Rattle.row_findings.specs.declared.part.Steps.{Steps}
use Rattle.row_findings.specs.declared.part.PartKind.{PartKind}
use Rattle.row_findings.specs.declared.part.PartKind.TheVariants as parts
use Rattle.row_findings.specs.View.{part_by, steps_view}
use Rattle.merged_rows.specs.declared.start.Start.{Start}
use Rattle.merged_rows.specs.declared.place.Place.{Place}
use Rattle.merged_rows.specs.Starts.{handed_to, is_boolean, made_by, path_by, place_spot, plain_spot, spot_behind, spot_of, walk_by, walk_in, walked_spot}
use Rattle.merged_rows.proofs.Trails.{made_further, path_further, walk_further}

whichever : {X : Type 0} → (b : Bool) (x : X) → x ≡ (if b then x else x)
whichever true x = refl
whichever false x = refl

-- ---- by a walk or without one

pub spot_walked : (o : Spot) (h : Handed) (k : Location) (s : Schema) (w : Walk) → walk_in s ≡ Some w → walked_spot o h w ≡ spot_inside o h k s
spot_walked o h k (boolean b) w e = cc
spot_walked o h k (object p ss ls ns) w e =
    ap (λ x. record { handed = h; path = spots.path_by o k x; walk = unwrap_or (option_map unmarked x) (to_child o.walk k); in_made = spots.made_by x }) (sym e)

pub spot_plain : (o : Spot) (h : Handed) (k : Location) (s : Schema) → walk_in s ≡ None → plain_spot o h k (is_boolean s) ≡ spot_inside o h k s
spot_plain o h k (boolean b) e = refl
spot_plain o h k (object p ss ls ns) e =
    ap (λ x. record { handed = h; path = spots.path_by o k x; walk = unwrap_or (option_map unmarked x) (to_child o.walk k); in_made = spots.made_by x }) (sym e)

-- ---- starts

module _ (p : Start) (ks : List Steps) where
  pub walked_is : (t : Start) (w : Walk) → t.path ≡ (if t.made then path_by p ks else last_of w) → t.walk ≡ unmarked w → t.made ≡ is_made w → (g h : Handed) → spot_of t [] h ≡ walked_spot (spot_of p ks g) h w
  walked_is t w e f m g h = λ i. record { handed = h; path = (e ∙ ap (λ b. if b then path_by p ks else last_of w) m) i; walk = f i; in_made = m i }

  pub made_is : (t : Start) (k : Location) (b : Bool) → t.path ≡ path_by p ks → t.walk ≡ (if b then walk_by p.walk ks else to_child (walk_by p.walk ks) k) → t.made ≡ false → made_by p ks ≡ true
      → (g h : Handed) → spot_of t [] h ≡ plain_spot (spot_of p ks g) h k b
  made_is t k b e f q x g h = λ i. record {
    handed = h;
    path = (e ∙ ap (λ m. if m then path_by p ks else last_of (walk_by p.walk ks) ++ k) (sym x)) i;
    walk = (f ∙ ap (λ m. if b then (if m then walk_by p.walk ks else to_child (walk_by p.walk ks) k) else to_child (walk_by p.walk ks) k) (sym x)) i;
    in_made = q i;
  }

  pub further_is : (k : Steps) (b : Bool) → made_by p ks ≡ false → (g h : Handed) → spot_of p (ks ++ k ∷ []) h ≡ plain_spot (spot_of p ks g) h (steps_view k) b
  further_is k b x g h = λ i. record {
    handed = h;
    path = (path_further p ks k ∙ ap (λ m. if m then path_by p ks else last_of (walk_by p.walk ks) ++ steps_view k) (sym x)) i;
    walk = (walk_further p.walk ks k ∙ whichever b (to_child (walk_by p.walk ks) (steps_view k))
        ∙ ap (λ m. if b then (if m then walk_by p.walk ks else to_child (walk_by p.walk ks) (steps_view k)) else to_child (walk_by p.walk ks) (steps_view k)) (sym x)) i;
    in_made = made_further p ks k i;
  }

  -- ---- places

  module _ (k : Steps) (r : Option Start) (o : Spot) (h : Handed) where
    pub own_start : (u : Start) → r ≡ Some u → spot_behind p ks k r h ≡ o → spot_of u [] h ≡ o
    own_start u e s = ap (λ r. spot_behind p ks k r h) (sym e) ∙ s

    pub one_further : (js : List Steps) → r ≡ None → js ≡ ks ++ k ∷ [] → spot_behind p ks k r h ≡ o → spot_of p js h ≡ o
    one_further js e f s = ap (λ js. spot_of p js h) f ∙ ap (λ r. spot_behind p ks k r h) (sym e) ∙ s

  module _ (ms : Branches) (k : Location) (s : Schema) where
    pub in_branch : (outer inner whole : Place) (l m : Location) (t : Start) → l ≡ take 2 k → m ≡ drop 2 k → t ≡ unwrap_or outer.start p
        → ((t : Start) (h : Handed) → place_spot t whole h ≡ place_spot (unwrap_or outer.start t) inner h)
        → ((g h : Handed) → place_spot p outer h ≡ spot_inside (spot_of p ks g) h l (branch_at l ms))
        → ((g h : Handed) → place_spot t inner h ≡ spot_inside (spot_of t outer.trail.items g) h m s)
        → (g h : Handed) → place_spot p whole h ≡ spot_inside (spot_of_branch (spot_of p ks g) ms k) h (drop 2 k) s
    in_branch outer inner whole l m t e f i whole-is outer-is inner-is g h =
        whole-is p h
        ∙ ap (λ t. place_spot t inner h) (sym i)
        ∙ inner-is None h
        ∙ ap (λ t. spot_inside (spot_of t outer.trail.items None) h m s) i
        ∙ ap (λ o. spot_inside o h m s) (outer-is g None ∙ ap (λ l. spot_inside (spot_of p ks g) None l (branch_at l ms)) e)
        ∙ ap (λ m. spot_inside (spot_of_branch (spot_of p ks g) ms k) h m s) f

    module _ (kind : PartKind) (x : Place) where
      abbrev PartIs : PartKind → Type 0
      PartIs kind = (h : Handed) → place_spot p x (handed_to h (part_by kind k s)) ≡ part_spot (spot_of p ks h) ms (part_by kind k s)

      pub as_child : kind ≡ parts.Child → ((g h : Handed) → place_spot p x h ≡ spot_inside (spot_of p ks g) h k s) → PartIs kind
      as_child e f = let P : PartKind → Type 0 = λ kind. PartIs kind in subst P (sym e) (λ h. f h None)

      pub as_lone : kind ≡ parts.Lone → ((g h : Handed) → place_spot p x h ≡ spot_inside (spot_of p ks g) h k s) → PartIs kind
      as_lone e f = let P : PartKind → Type 0 = λ kind. PartIs kind in subst P (sym e) (λ h. f h h)

      pub as_branch : kind ≡ parts.OfBranch → ((g h : Handed) → place_spot p x h ≡ spot_inside (spot_of_branch (spot_of p ks g) ms k) h (drop 2 k) s) → PartIs kind
      as_branch e f = let P : PartKind → Type 0 = λ kind. PartIs kind in subst P (sym e) (λ h. f h None)

      pub as_made : kind ≡ parts.Made → ((t : Start) (h : Handed) → place_spot t x h ≡ spot_of t ks h) → PartIs kind
      as_made e f = let P : PartKind → Type 0 = λ kind. PartIs kind in subst P (sym e) (λ h. f p h)
