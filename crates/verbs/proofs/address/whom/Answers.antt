-- `whom` meets its contract: the caller may not name the number, or it is not live, or it is found.
use Rattle.verbs.specs.Address.{handed_on, addresses_not, addresses}
use Rattle.verbs.proofs.address.whom.Goals as goal

pub returns-in_err-names : goal.returns-in_err-names
returns-in_err-names c =
    rw (handed_on c.from_residual.ensures.1) (addresses_not c.args.n.0 c.names.ensures c.in_err-names.was)

pub returns : goal.returns
returns c = rw c.ok_or.ensures.value (addresses c.args.n.0 c.names.ensures c.in_ok-names.was c.find.ensures)
