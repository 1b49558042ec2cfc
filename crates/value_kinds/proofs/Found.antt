-- What is found in rounds is what items may read.
use Rattle.std.proofs.Common.{◌≡◌, ℕ, zero, suc, ◌+◌, ◌-◌, ◌≤◌, List, [], ◌∷◌, map, length, Bool, false, ◌||◌, Option, Some, None, slice_get, filter_map, refl, sym, ap, ◌∙◌, arith}
use Rattle.std.specs.List.{list_any, cons_option}
use Rattle.std.proofs.lemmas.List.{length-map}
use Rattle.std.specs.declared.alloc.Global.{Global}
use Rattle.std.specs.Prelude.{Vec}
use Rattle.name_tables.specs.Names.{Names, place_of, all_entered}
use Rattle.name_tables.proofs.Names.{entered_are_scanned}
use Rattle.reference_graph.specs.Graph.{Graph, graph_of}
use Rattle.reference_graph.proofs.Routes.{graph_length}
use Rattle.model_defs.specs.Model.{ContainerModel, container_named}
use Rattle.model_defs.specs.Reach.{asked_by}
use Rattle.model_defs.specs.Reads.{allowed}
use Rattle.value_models.specs.Names.{container_names, at_place}
use Rattle.value_models.proofs.Found.{containers_are_found}
use Rattle.writing_laws.specs.Kinds.{Kind, body_may, container_may, may_within}
use Rattle.value_kinds.specs.Claims.{no_item, own_kinds}
use Rattle.value_kinds.specs.Kinds.{has, kinds_where}
use Rattle.value_kinds.specs.Rounds.{places_of, asked_places, asked_graph, no_kinds, kinds_at, with_places, next_kinds, kinds_after, kinds_of_place, AreKinds}
use Rattle.value_kinds.specs.declared.type_kinds.TypeKinds.{TypeKinds}
use Rattle.value_kinds.proofs.Splits.{has_where, body_split, bodies_alike}

none_has : (k : Kind) → has no_kinds k ≡ false
none_has k = has_where (λ k. false) k

no_place_has : (k : Kind) (o : Option ℕ) → has (kinds_of_place [] o) k ≡ false
no_place_has k None = none_has k
no_place_has k (Some p) = none_has k

-- ---- one round

module _ (F : ContainerModel → TypeKinds) where
  abbrev kinds_if : Option ContainerModel → TypeKinds
  kinds_if None = no_kinds
  kinds_if (Some m) = F m

  at_mapped : (ms : List ContainerModel) (p : ℕ) → kinds_at (map F ms) p ≡ kinds_if (slice_get ms p)
  at_mapped [] p = refl
  at_mapped (m ∷ ms) zero = refl
  at_mapped (m ∷ ms) (suc p) = at_mapped ms p

  of_mapped : (ms : List ContainerModel) (o : Option ℕ) → kinds_of_place (map F ms) o ≡ kinds_if (at_place ms o)
  of_mapped ms None = refl
  of_mapped ms (Some p) = at_mapped ms p

  named_mapped : (ms : List ContainerModel) (n : List ℕ) → kinds_of_place (map F ms) (place_of n (container_names 0 ms)) ≡ kinds_if (container_named n ms)
  named_mapped ms n = of_mapped ms (place_of n (container_names 0 ms)) ∙ ap kinds_if (sym (containers_are_found n ms))

zipped : (kinds : List TypeKinds) (own : ContainerModel → TypeKinds) (row : ContainerModel → List ℕ) (ms : List ContainerModel)
    → next_kinds kinds (map own ms) (map row ms) ≡ map (λ m. with_places kinds (row m) (own m)) ms
zipped kinds own row [] = refl
zipped kinds own row (m ∷ ms) = ap (λ xs. with_places kinds (row m) (own m) ∷ xs) (zipped kinds own row ms)

module _ (k : Kind) (kinds : List TypeKinds) (names : Names) (f : List ℕ → Bool) (known : (n : List ℕ) → has (kinds_of_place kinds (place_of n names)) k ≡ f n) where
  one_asked : (o : Option ℕ) (ps : List ℕ) → list_any (λ p. has (kinds_at kinds p) k) (cons_option o ps) ≡ (has (kinds_of_place kinds o) k || list_any (λ p. has (kinds_at kinds p) k) ps)
  one_asked None ps = ap (λ b. b || list_any (λ p. has (kinds_at kinds p) k) ps) (sym (none_has k))
  one_asked (Some p) ps = refl

  any_asked : (ns : List (List ℕ)) → list_any (λ p. has (kinds_at kinds p) k) (places_of names ns) ≡ list_any f ns
  any_asked [] = refl
  any_asked (n ∷ ns) = one_asked (place_of n names) (places_of names ns) ∙ (λ i. known n i || any_asked ns i)

module _ (ms : List ContainerModel) where
  abbrev names : Names
  names = container_names 0 ms

  abbrev after : ℕ → List TypeKinds
  after j = kinds_after (map own_kinds ms) (asked_graph ms) j

  module _ (k : Kind) (j : ℕ) (known : (n : List ℕ) → has (kinds_of_place (after j) (place_of n names)) k ≡ may_within k ms j n) where
    found : (o : Option ContainerModel) → has (kinds_if (λ m. with_places (after j) (asked_places names m) (own_kinds m)) o) k ≡ container_may k (may_within k ms j) o
    found None = none_has k
    found (Some m) =
        let own = has_where (λ k. body_may k no_item false m.body) k ∙ bodies_alike k m.closed m.body in
        has_where (λ k. has (own_kinds m) k || list_any (λ p. has (kinds_at (after j) p) k) (asked_places names m)) k
        ∙ (λ i. own i || any_asked k (after j) names (may_within k ms j) known (asked_by (Some m)) i)
        ∙ sym (body_split k (may_within k ms j) m.closed m.body)

  level : (k : Kind) (j : ℕ) (n : List ℕ) → has (kinds_of_place (after j) (place_of n names)) k ≡ may_within k ms j n
  level k zero n = no_place_has k (place_of n names)
  level k (suc j) n =
      ap (λ xs. has (kinds_of_place xs (place_of n names)) k) (zipped (after j) own_kinds (asked_places names) ms)
      ∙ ap (λ x. has x k) (named_mapped (λ m. with_places (after j) (asked_places names m) (own_kinds m)) ms n)
      ∙ found k j (level k j) (container_named n ms)

  pub are_kinds : (kinds : List TypeKinds) → kinds ≡ after (allowed ms) → AreKinds ms kinds
  are_kinds kinds e = record { read = λ k n. ap (λ xs. has (kinds_of_place xs (place_of n names)) k) e ∙ level k (allowed ms) n }

-- ---- a quiet round is the last

module _ (owns : List TypeKinds) (rows : Graph) where
  abbrev more : ℕ → ℕ → ℕ
  more zero j = j
  more (suc d) j = suc (more d j)

  more_is : (d j : ℕ) → more d j ≡ d + j
  more_is zero j = omega arith
  more_is (suc d) j = ap suc (more_is d j) ∙ omega arith

  stays : (d j : ℕ) → kinds_after owns rows (suc j) ≡ kinds_after owns rows j → kinds_after owns rows (more d j) ≡ kinds_after owns rows j
  stays zero j e = refl
  stays (suc d) j e = ap (λ kinds. next_kinds kinds owns rows) (stays d j e) ∙ e

  pub quiet : (j n : ℕ) (kinds next : List TypeKinds) → j ≤ n → kinds ≡ kinds_after owns rows j → next ≡ next_kinds kinds owns rows → next ≡ kinds → next ≡ kinds_after owns rows n
  quiet j n kinds next h e x s =
      let still : kinds_after owns rows (suc j) ≡ kinds_after owns rows j = ap (λ kinds. next_kinds kinds owns rows) (sym e) ∙ sym x ∙ s ∙ e in
      let way : more (n - j) j ≡ n = more_is (n - j) j ∙ omega arith in
      s ∙ e ∙ sym (stays (n - j) j still) ∙ ap (kinds_after owns rows) way

  pub one_round : (j : ℕ) (kinds next : List TypeKinds) → kinds ≡ kinds_after owns rows j → next ≡ next_kinds kinds owns rows → next ≡ kinds_after owns rows (j + 1)
  one_round j kinds next e x = x ∙ ap (λ kinds. next_kinds kinds owns rows) e ∙ ap (kinds_after owns rows) (let more : suc j ≡ j + 1 = omega arith in more)

  pub last_round : (j n : ℕ) (kinds : List TypeKinds) → j ≤ n → n ≤ j → kinds ≡ kinds_after owns rows j → kinds ≡ kinds_after owns rows n
  last_round j n kinds l g e = e ∙ ap (kinds_after owns rows) (let same : j ≡ n = omega arith in same)

-- ---- the program's rows

-- each name is looked up in the table as among the names
pub by_names : (ms : List ContainerModel) (t : Names) → t ≡ all_entered (container_names 0 ms) [] → map (asked_places t) ms ≡ asked_graph ms
by_names ms t e =
    ap (λ t. map (asked_places t) ms) e ∙ (λ i. map (λ m. filter_map (λ n. entered_are_scanned n (container_names 0 ms) i) (asked_by (Some m))) ms)

pub as_many : (owns : List TypeKinds) (rows : List (Vec ℕ Global)) (ms : List ContainerModel) → owns ≡ map own_kinds ms → graph_of rows ≡ asked_graph ms → length owns ≡ length rows
as_many owns rows ms e g =
    ap length e ∙ length-map ms own_kinds ∙ sym (length-map ms (asked_places (container_names 0 ms))) ∙ sym (ap length g) ∙ graph_length rows

pub all_rounds : (ms : List ContainerModel) (owns kinds : List TypeKinds) (rows : Graph) (n : ℕ) → owns ≡ map own_kinds ms → rows ≡ asked_graph ms → n ≡ length ms → kinds ≡ kinds_after owns rows (n + 1) → AreKinds ms kinds
all_rounds ms owns kinds rows n o r l e =
    let more : n + 1 ≡ suc (length ms) = omega (arith, l) in
    are_kinds ms kinds (e ∙ (λ i. kinds_after (o i) (r i) (more i)))

-- ---- kinds of a name, and of what is claimed

pub by_name : (ms : List ContainerModel) (kinds : List TypeKinds) → AreKinds ms kinds → (n : List ℕ) (t : Names) (o : Option ℕ) (x : TypeKinds)
    → t ≡ all_entered (container_names 0 ms) [] → o ≡ place_of n t → x ≡ kinds_of_place kinds o → x ≡ kinds_where (λ k. may_within k ms (allowed ms) n)
by_name ms kinds known n t o x e p q =
    let place : o ≡ place_of n (container_names 0 ms) = p ∙ ap (place_of n) e ∙ entered_are_scanned n (container_names 0 ms) in
    q ∙ ap (kinds_of_place kinds) place ∙ (λ i. kinds_where (λ k. known.read k n i))
