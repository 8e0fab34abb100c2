use Rattle.sequence.proofs.make.make_call.Goals as goal

pub returns-in-Step-clause-books : goal.returns-in-Step-clause-books
returns-in-Step-clause-books g c = rw c.in-Step.is c.step.ensures.books
