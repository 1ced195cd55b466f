-- What the answers to the commands of a session say of its devices and of memory, by the words of what it served.
pub use Rattle.era_served.specs.Counts.{says_memory, some_says_memory as some_memory_in, some_tells_fault as some_fault_in, tells_fault as says_fault}
