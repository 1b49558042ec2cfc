-- Definitions counted one after another, by their names.
use Rattle.std.proofs.Common.{◌≡◌, ℕ, ◌+◌, ◌≤◌, List, [], ◌∷◌, map, sym, ap, ◌∙◌, arith}
use Rattle.std.specs.Prelude.{Some, Contains, option_map}
use Rattle.schema_defs.specs.Schema.{Schema, boolean, object, Definition}
use Rattle.schema_defs.specs.Admits.{defined}
use Rattle.schema_defs.specs.Counts.{schema_nodes, definitions_nodes}
use Rattle.schema_defs.specs.Laws.{NamesRise}
use Rattle.schema_defs.proofs.Stand.{first_in, rest_in}
use Rattle.schema_laws.proofs.Located.{found}

one_at_least : (s : Schema) → 1 ≤ schema_nodes s
one_at_least (boolean b) = omega arith
one_at_least (object p ss ls ns) = omega arith

-- the root is one
pub some_nodes : (s : Schema) (root rest n : ℕ) → root ≡ schema_nodes s → n ≡ root + rest → 1 ≤ n
some_nodes s root rest n e h = let one = one_at_least s in omega (arith, one, e, h)

module _ (ds : List Definition) where
  -- the definitions that are left, by their names
  pub record Left (names : List (List ℕ)) (old : ℕ) : Type 0 where
    pub rest : List Definition
    pub names_are : names ≡ map (λ e. e.name) rest
    pub among : (e : Definition) → Contains rest e → Contains ds e
    pub counted : old + definitions_nodes rest ≡ definitions_nodes ds

  pub left_all : (names : List (List ℕ)) → names ≡ map (λ e. e.name) ds → Left names 0
  left_all names e = record { rest = ds; names_are = e; among = λ x c. c; counted = omega arith }

  module _ (rise : NamesRise (map (λ e. e.name) ds)) (n : List ℕ) (names : List (List ℕ)) (old one new : ℕ) where
    there : (x : Definition) → x.name ≡ n → Contains ds x → option_map (λ (e : Definition). e.body) (defined n ds) ≡ Some x.body
    there x name_is stands = ap (λ n. option_map (λ (e : Definition). e.body) (defined n ds)) (sym name_is) ∙ ap (option_map (λ (e : Definition). e.body)) (found ds rise x stands)

    abbrev Counts : Type 0
    Counts = (s : Schema) → option_map (λ (e : Definition). e.body) (defined n ds) ≡ Some s → one ≡ schema_nodes s

    one_on : (rest : List Definition) → n ∷ names ≡ map (λ e. e.name) rest → ((e : Definition) → Contains rest e → Contains ds e) → old + definitions_nodes rest ≡ definitions_nodes ds → Counts → new ≡ old + one → Left names new
    one_on [] e among counted counts m = absurd (cc)
    one_on (x ∷ xs) e among counted counts m =
        let name_is : x.name ≡ n = cc in
        let here : one ≡ schema_nodes x.body = counts x.body (there x name_is (among x (first_in x xs))) in
        record {
          rest = xs;
          names_are = cc;
          among = λ y c. among y (rest_in x xs y c);
          counted = omega (arith, here, m, counted);
        }

    pub left_on : Left (n ∷ names) old → Counts → new ≡ old + one → Left names new
    left_on l counts m = one_on l.rest l.names_are l.among l.counted counts m

  pub none_left : (names : List (List ℕ)) (old : ℕ) → names ≡ [] → Left names old → old ≡ definitions_nodes ds
  none_left names old e l = by l.rest (sym e ∙ l.names_are) l.counted
    where
      by : (rest : List Definition) → [] ≡ map (λ e. e.name) rest → old + definitions_nodes rest ≡ definitions_nodes ds → old ≡ definitions_nodes ds
      by [] h c = omega (arith, c)
      by (x ∷ xs) h c = absurd (cc)
