use Rattle.std.proofs.Common.{ap, sym, ◌∙◌, rules}
use Rattle.params_text.specs.View.{rate_of, rates_of}
use Rattle.params_text.proofs.RateSteps.{rates_from, rates-start, rates-stop, rates-next, rate-shortens}
use Rattle.params_text.proofs.filter.all_rates.Goals as goal

pub items-init : goal.items-init
items-init c = ap (λ r. rates_from c.args.brackets r c.args.reader.now) c.requires ∙ rates-start c.args.brackets c.args.reader.now

pub items-preserved : goal.items-preserved
items-preserved c =
    rates-next c.args.brackets (rates_of c.items.rates) (rates_of c.note.new.rates) c.items.reader c.one_rate.new.reader (rate_of c.in_ok-rate.rate)
    (search rules) c.in_ok-rate.ensures c.in_ok-note.ensures
    ∙ c.items.invariant

pub items-smaller : goal.items-smaller
items-smaller c = rate-shortens c.args.brackets c.items.reader c.one_rate.new.reader (rate_of c.in_ok-rate.rate) c.in_ok-rate.ensures

pub returns : goal.returns
returns c = sym c.items.invariant ∙ rates-stop c.args.brackets (rates_of c.items.rates) c.items.reader (search rules)
