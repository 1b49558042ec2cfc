-- The parts of values and of documents: what is found there is no larger.
use Rattle.std.proofs.Common.{◌≡◌, ℕ, suc, ◌<◌, ◌≤◌, List, [], ◌∷◌, Bool, true, false, ◌&&◌, cond, bytes_eq, Option, Some, None, option_map, Vec, BTreeMap, String, Global, refl, sym, ap, ◌∙◌, subst, arith}
use Rattle.std.specs.List.{list_all}
use Rattle.serde_json.specs.View.{items_view, members_view}
use Rattle.serde_json.proofs.Views.{view-Array, view-Object}
use Rattle.serde_json.specs.declared.value.Value.{Value as Json, Array, Object}
use Rattle.json_value.specs.Value.{Value, Members, member, no_members, value_size, items_size, members_size, object}
use Rattle.json_value.specs.View.{items_of, members_of, kept_view}
use Rattle.schema_defs.specs.Schema.{Schema, Named, named, no_named, Definition, Document}
use Rattle.schema_defs.specs.Texts.{Relations}
use Rattle.schema_defs.specs.Layer.{named_agree}
use Rattle.schema_defs.specs.Admits.{admits, admits_with, admits-level, allowed, target, defined, defined_as, definition_name, is_root_reference, follows, follow, parts_of, member_parts}
use Rattle.schema_defs.specs.Counts.{schema_nodes, definitions_nodes, nodes as document_nodes}
use Rattle.schema_admission.specs.Judging.{named_member, rules_part}

pub array_size : (x : Json) (vs : Vec Json Global) → x ≡ Array vs → items_size (items_of (items_view vs.items)) < value_size (kept_view x)
array_size x vs e = rw (e, view-Array vs) (omega arith)

pub object_size : (x : Json) (m : BTreeMap (String Global) Json) → x ≡ Object m → members_size (members_of (members_view m.entries)) < value_size (kept_view x)
object_size x m e = rw (e, view-Object m) (omega arith)

-- P of what is there
abbrev On : {A : Type 0} → (A → Type 0) → Option A → Type 0
On P None = Unit {0}
On P (Some s) = P s

on_cond : (P : Definition → Type 0) (b : Bool) (s : Definition) (o : Option Definition) → P s → On P o → On P (cond b (Some s) o)
on_cond P true s o h k = h
on_cond P false s o h k = k

weaker : (n m : ℕ) (o : Option Definition) → n ≤ m → On (λ e. schema_nodes e.body ≤ n) o → On (λ e. schema_nodes e.body ≤ m) o
weaker n m None le h = tt
weaker n m (Some s) le h = omega (arith, le, h)

found_in : (n : List ℕ) (ds : List Definition) → On (λ e. schema_nodes e.body ≤ definitions_nodes ds) (defined n ds)
found_in n [] = tt
found_in n (e ∷ es) = on_cond _ (bytes_eq n e.name) e _ (omega arith) (weaker _ _ _ (omega arith) (found_in n es))

bodies : (m : ℕ) (o : Option Definition) → On (λ e. schema_nodes e.body ≤ m) o → On (λ s. schema_nodes s ≤ m) (option_map (λ e. e.body) o)
bodies m None h = tt
bodies m (Some e) h = h

found_as : (d : Document) (o : Option (List ℕ)) → On (λ e. schema_nodes e.body ≤ document_nodes d) (defined_as d o)
found_as d None = tt
found_as d (Some n) = weaker _ _ _ (omega arith) (found_in n d.definitions)

target_cond : (d : Document) (b : Bool) (o : Option Schema) → On (λ s. schema_nodes s ≤ document_nodes d) o → On (λ s. schema_nodes s ≤ document_nodes d) (cond b (Some d.root) o)
target_cond d true o h = omega arith
target_cond d false o h = h

target_in : (d : Document) (q : List ℕ) → On (λ s. schema_nodes s ≤ document_nodes d) (target d q)
target_in d q = target_cond d (is_root_reference q) _ (bodies _ _ (found_as d (definition_name q)))

-- the target of a reference is no larger than the document
pub target_size : (d : Document) (q : List ℕ) (s : Schema) → target d q ≡ Some s → schema_nodes s ≤ document_nodes d
target_size d q s e = subst (On (λ s. schema_nodes s ≤ document_nodes d)) e (target_in d q)

-- where all references are allowed
pub anew_admits : (r : Relations) (d : Document) (v : Value) (n : ℕ) (s : Schema) → n ≡ allowed d → admits_with r d n v s ≡ admits r d v s
anew_admits r d v n s e = ap (λ k. admits_with r d k v s) e ∙ λ i. sym (admits-level r d v) i s

-- a reference, followed
pub followed : (r : Relations) (d : Document) (v : Value) (left n : ℕ) (q : List ℕ) (s : Schema) → left ≡ suc n → target d q ≡ Some s → follows r d v (parts_of r d v) left q ≡ admits_with r d n v s
followed r d v left n q s e h = ap (λ k. follows r d v (parts_of r d v) k q) e ∙ ap (follow (admits_with r d n v)) h

pub missing : (r : Relations) (d : Document) (v : Value) (left n : ℕ) (q : List ℕ) → left ≡ suc n → target d q ≡ None → follows r d v (parts_of r d v) left q ≡ false
missing r d v left n q e h = ap (λ k. follows r d v (parts_of r d v) k q) e ∙ ap (follow (admits_with r d n v)) h

no_keywords : (r : Relations) (d : Document) (ms : Members) → true ≡ (list_all (named_member r d no_named) (member_parts r d ms) && true)
no_keywords r d no_members = refl
no_keywords r d (member k v ms) = no_keywords r d ms

-- the keywords of objects, as those of each member and the others
pub named_split : (r : Relations) (d : Document) (ms : Members) (n : Named) → named_agree r ms (parts_of r d (object ms)) n ≡ (list_all (named_member r d n) (member_parts r d ms) && rules_part ms n)
named_split r d ms no_named = no_keywords r d ms
named_split r d ms (named props patterns rest names rules) = refl
