pub mod Meshed
