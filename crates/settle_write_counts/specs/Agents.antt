pub mod Agents
