use Rattle.std.proofs.Common.{ap, sym, ◌∙◌, rules}
use Rattle.streamit_text.specs.View.{rate_of, rates_of, option_rates}
use Rattle.streamit_text.proofs.RateSteps.{rates-start, rates-stop, rates-next, rates-twice, rate-shortens}
use Rattle.streamit_text.proofs.filter.rates.Goals as goal

pub items-init : goal.items-init
items-init c = rates-start c.args.reader.now

pub items-preserved : goal.items-preserved
items-preserved c =
    rates-next (rates_of c.items.rates) (rates_of c.in-Some.more) c.items.reader c.one_rate.new.reader (rate_of c.in_ok-rate.rate) (search rules)
    c.in_ok-rate.ensures
    (sym c.with_rate.ensures ∙ ap option_rates c.in-Some.is)
    ∙ c.items.invariant

pub items-smaller : goal.items-smaller
items-smaller c = rate-shortens c.items.reader c.one_rate.new.reader (rate_of c.in_ok-rate.rate) c.in_ok-rate.ensures

pub returns-in-None : goal.returns-in-None
returns-in-None c =
    sym c.items.invariant
    ∙ rates-twice (rates_of c.items.rates) c.items.reader c.one_rate.new.reader (rate_of c.in_ok-rate.rate) (search rules) c.in_ok-rate.ensures
    (sym c.with_rate.ensures ∙ ap option_rates c.in-None.is)

pub returns : goal.returns
returns c = sym c.items.invariant ∙ rates-stop (rates_of c.items.rates) c.items.reader (search rules)
