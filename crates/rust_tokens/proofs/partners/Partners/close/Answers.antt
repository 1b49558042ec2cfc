use Rattle.std.proofs.Common.{◌≡◌, ◌-◌, ◌∙◌, ap, take, true, false}
use Rattle.rust_tokens.proofs.Seeking.{last_closed, last_stays}
use Rattle.rust_tokens.proofs.partners.Partners.close.Goals as goal

pub returns-then-is_partner-clause-brackets : goal.returns-then-is_partner-clause-brackets
returns-then-is_partner-clause-brackets c =
    last_closed c.args.self.now.open_brackets.items c.pop.new.self.items c.args.delimiter (c.is_partner.ensures.0 c.if-is_partner.true) (c.pop.ensures.rest ∙ ap (λ n. take (n - 1) c.args.self.now.open_brackets.items) c.args.self.now.open_brackets.ok.0)

pub returns-else-is_partner-clause-brackets : goal.returns-else-is_partner-clause-brackets
returns-else-is_partner-clause-brackets c =
    last_stays c.args.self.now.open_brackets.items c.args.delimiter (λ k. let yes : c.is_partner.result ≡ true = c.is_partner.ensures.1 k in let no : c.is_partner.result ≡ false = c.if-is_partner.false in cc)
