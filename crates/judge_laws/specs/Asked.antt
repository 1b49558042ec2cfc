-- What a judge of texts is asked while schemas are converted, and what it means that another answers it alike.
use Rattle.std.specs.Prelude.{◌≡◌, ℕ, List, [], ◌∷◌, Option, Some, None}
use Rattle.std.specs.List.{AllByRecursion}
use Rattle.schema_defs.specs.Texts.{Relations}
use Rattle.schema_defs.specs.Schema.{Plain, Schema, boolean, object, Document}
use Rattle.convert_defs.specs.Scalars.{patterns_in, texts_in}
use Rattle.convert_defs.specs.Table.{finding_of, constant_of, listed}
use Rattle.convert_walks.specs.Tree.{Node}
use Rattle.convert_walks.specs.Told.{faults_in}
use Rattle.merging_laws.specs.Conversion.{AllNodes}

-- the texts of a schema of which its patterns are asked: those that it lists, and the constant
abbrev pub texts_listed : Plain → List (List ℕ)
texts_listed p = texts_in (listed p.enum_values)

abbrev pub of_constant : Option (List ℕ) → List (List ℕ)
of_constant None = []
of_constant (Some s) = s ∷ []

-- `r` was asked, `q` answers alike
module _ (r q : Relations) where
  abbrev pub SameOf : List (List ℕ) → List ℕ → Type 0
  SameOf patterns s = AllByRecursion (λ x. q.matches x s ≡ r.matches x s) patterns

  pub record SameTexts (p : Plain) : Type 0 where
    pub listed : AllByRecursion (SameOf (patterns_in p)) (texts_listed p)
    pub constant : AllByRecursion (SameOf (patterns_in p)) (of_constant (constant_of p))

  abbrev pub SameTextsOf : Schema → Type 0
  SameTextsOf (boolean b) = Unit {0}
  SameTextsOf (object p ss ls ns) = SameTexts p

  -- of one schema it is asked whether its patterns are patterns, and whether its texts match them
  pub record AnswersAlike (d : Document) (s : Schema) : Type 0 where
    pub patterns : AllByRecursion (λ x. q.is_pattern x ≡ r.is_pattern x) (finding_of r d s).patterns
    pub texts : SameTextsOf s

  -- schemas that were converted without faults
  pub record Answered (d : Document) (most n : ℕ) (ts : List Node) : Type 0 where
    pub faultless : faults_in r d most n ts ≡ []
    pub alike : AllNodes (λ t. AnswersAlike d t.schema) ts
