-- Members by their places.
use Rattle.std.proofs.Common.{◌≡◌, ℕ, suc, ◌+◌, List, [], ◌∷◌, ◌++◌, append_assoc, append-nil, length, map, sym, ap, ◌∙◌, arith}
use Rattle.std.proofs.lemmas.List.{map-append}
use Rattle.schema_defs.specs.Location.{Step, place}
use Rattle.schema_defs.specs.Schema as defs
use Rattle.schema_defs.specs.Schema.{schemas, schema}
use Rattle.schema_types.specs.View.{schema_view, schemas_view}
use Rattle.schema_types.specs.declared.schema.Schema.{Schema}
use Rattle.convert_defs.specs.Shapes.{members_from}
use Rattle.member_rows.specs.declared.members.Member.{Member}
use Rattle.member_rows.specs.Members.{member_view}

next : (i : ℕ) → suc i ≡ i + 1
next i = omega arith

members_step : (k : Step) (i : ℕ) (s : defs.Schema) (ss : defs.Schemas) → members_from k i (schema s ss) ≡ (k ∷ place i ∷ [], s) ∷ members_from k (i + 1) ss
members_step k i s ss = λ j. (k ∷ place i ∷ [], s) ∷ members_from k (next i j) ss

pub members_more : (k : Step) (i : ℕ) (s : Schema) (left rest : List Schema) (ms ns : List Member) (m : Member) → left ≡ s ∷ rest → ns ≡ ms ++ m ∷ [] → member_view m ≡ (k ∷ place i ∷ [], schema_view s)
    → map member_view ms ++ members_from k i (schemas (schemas_view left)) ≡ map member_view ns ++ members_from k (i + 1) (schemas (schemas_view rest))
members_more k i s left rest ms ns m l e v =
    ap (λ ss. map member_view ms ++ members_from k i (schemas (schemas_view ss))) l
    ∙ ap (λ xs. map member_view ms ++ xs) (members_step k i (schema_view s) (schemas (schemas_view rest)))
    ∙ sym (append_assoc (map member_view ms) ((k ∷ place i ∷ [], schema_view s) ∷ []) (members_from k (i + 1) (schemas (schemas_view rest))))
    ∙ ap (λ xs. xs ++ members_from k (i + 1) (schemas (schemas_view rest))) (sym (ap (map member_view) e ∙ map-append member_view ms (m ∷ []) ∙ ap (λ x. map member_view ms ++ x ∷ []) v))

pub counted_more : (i n : ℕ) (s : Schema) (left rest : List Schema) → left ≡ s ∷ rest → i + length left ≡ n → i + 1 + length rest ≡ n
counted_more i n s left rest l h = let e : length left ≡ suc (length rest) = ap length l in omega arith

no_more_than_none : (n : ℕ) → suc n ≡ 0 → ⊥
no_more_than_none n h = omega arith

pub members_done : (k : Step) (i : ℕ) (left : List Schema) (ms : List Member) → length left ≡ 0 → map member_view ms ++ members_from k i (schemas (schemas_view left)) ≡ map member_view ms
members_done k i [] ms h = append-nil (map member_view ms)
members_done k i (s ∷ ss) ms h = absurd (no_more_than_none (length ss) h)
