-- The store that one thread keeps.
use Rattle.std.specs.Prelude.{◌==◌, if◌then◌else◌}
use Rattle.std.specs.BTreeMap.{get}
use Rattle.std.specs.Ordering.{nat_cmp}
use Rattle.std.specs.Option.{unwrap_or}
use Rattle.seq_objects.specs.declared.plain.Plain.{Plain}
use Rattle.seq_objects.specs.Objects.{opening}
use Rattle.seq_objects.specs.Stores.{Store}

-- the objects of number 0, those kept of the other numbers, and the opening ones of all else
unfoldable pub store_in : Plain → Store
store_in plain = λ number. if number == 0 then plain.first else unwrap_or (get nat_cmp plain.others number) opening
