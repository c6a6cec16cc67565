-- How an `ArcRow` keeps its row.
use Rattle.firm_net.specs.Row.{Row, IsRow}
use Rattle.firm_net.specs.declared.row.ArcRow.TheInside.{Inside}

abbrev pub row_of : Inside → Row
row_of a = record { tail = a.tail; head = a.head; low = a.low; cap = a.cap; cost = a.cost; flow = a.flow }

abbrev pub fields_of : Row → Inside
fields_of r = record { tail = r.tail; head = r.head; low = r.low; cap = r.cap; cost = r.cost; flow = r.flow }

abbrev pub IsRowOfFields : Inside → Type 0
IsRowOfFields a = IsRow (row_of a)
