use Rattle.river_cli.proofs.langs.mean_in.Goals as goal

pub returns-in-River-clause-passes : goal.returns-in-River-clause-passes
returns-in-River-clause-passes g c = rw c.in-River.is c.mean.ensures.passes

pub returns-in-Streamit-clause-passes : goal.returns-in-Streamit-clause-passes
returns-in-Streamit-clause-passes g c = rw c.in-Streamit.is c.mean-in-Streamit.ensures.passes

pub returns-in-Params-clause-passes : goal.returns-in-Params-clause-passes
returns-in-Params-clause-passes g c = rw c.in-Params.is c.mean-in-Params.ensures.passes

pub returns-in-Sawzall-clause-passes : goal.returns-in-Sawzall-clause-passes
returns-in-Sawzall-clause-passes g c = rw c.in-Sawzall.is c.mean-in-Sawzall.ensures.passes

pub returns-in-Cql-clause-passes : goal.returns-in-Cql-clause-passes
returns-in-Cql-clause-passes g c = rw c.in-Cql.is c.mean-in-Cql.ensures.passes
