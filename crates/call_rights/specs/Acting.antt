-- The acting party of the definitions that the code's is, and the matter that it asks for. Assumes nothing.
use Rattle.rights.specs.Party as model
use Rattle.call_rights.specs.declared.Party.{Party}
use Rattle.call_rights.specs.declared.Party.TheVariants.{Operator, Shipper}
use Rattle.call_rights.specs.declared.Matter.{Matter}
use Rattle.call_rights.specs.declared.Matter.TheVariants.{Operators, Own}

-- the operator, or a shipper by its id
abbrev pub as_party : Party → model.Party
as_party Operator = model.operator
as_party (Shipper id) = model.shipper_of id

-- the operator's, or an id's own
abbrev pub as_matter : Matter → model.Matter
as_matter Operators = model.operators
as_matter (Own id) = model.own id
