-- Kinds one after another.
use Rattle.std.proofs.Common.{◌≡◌, List, [], ◌∷◌, ◌++◌, sym, ap, ◌∙◌, append_assoc, append-nil}
use Rattle.merge_defs.specs.Outcome.{Note, Kind}
use Rattle.schema_merge.specs.Ordered.{of_kind, of_kinds}

pub both_ways_on : (a b c ns ms : List Note) → b ≡ a ++ ns → c ≡ b ++ ms → c ≡ a ++ (ns ++ ms)
both_ways_on a b c ns ms e f = f ∙ ap (λ b. b ++ ms) e ∙ append_assoc a ns ms

-- so many are left
pub kinds_begin : (ns whole : List Note) (ks : List Kind) → whole ≡ of_kinds ns ks → [] ++ of_kinds ns ks ≡ whole
kinds_begin ns whole ks e = sym e

pub kinds_on : (ns a b whole : List Note) (k : Kind) (ks : List Kind) → a ++ of_kinds ns (k ∷ ks) ≡ whole → b ≡ a ++ of_kind ns k → b ++ of_kinds ns ks ≡ whole
kinds_on ns a b whole k ks e f = ap (λ b. b ++ of_kinds ns ks) f ∙ append_assoc a (of_kind ns k) (of_kinds ns ks) ∙ e

pub kinds_end : (ns a whole : List Note) → a ++ of_kinds ns [] ≡ whole → a ≡ whole
kinds_end ns a whole e = sym (append-nil a) ∙ e
